-- The laws of the call, and what the proofs of several functions use.
mod RowLaws
mod Placing
mod Moves
mod Outcomes
pub mod Calls
