-- The state, put line by line.
pub mod StateLaws
