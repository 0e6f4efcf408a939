-- What the questions promise.
pub mod Promises
