-- What the functions' proofs cite, and the law of the promise.
mod ReadLaws
pub mod Calls
