-- The laws of a list of reports.
pub mod Walking
pub mod PairLaws
pub mod Calls
