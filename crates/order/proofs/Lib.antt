-- The orders of a script, and the reading of them.
pub mod OrderLaws
pub mod Asked
