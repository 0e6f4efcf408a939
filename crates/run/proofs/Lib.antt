-- What the proofs of several functions use, and the law of the promise.
mod Numbers
mod Runs
mod Free
pub mod Calls
