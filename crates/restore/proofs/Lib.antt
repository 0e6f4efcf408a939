-- What the functions' proofs cite, and the laws of the promise.
mod Records
mod Turns
pub mod Calls
