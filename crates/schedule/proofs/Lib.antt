-- What the functions' proofs cite, and the laws of the calls.
mod Exits
pub mod Calls
