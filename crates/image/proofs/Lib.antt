-- What the functions' proofs cite, and the laws of the calls.
mod Puts
mod Loads
pub mod Calls
