-- What a call that is counted answers.
pub mod Sizes
