-- The laws of texts, in the order to read them.
pub mod DecimalLaws
pub mod SplitLaws
pub mod RowLaws
pub mod CommandLaws
pub mod SingleLaws
