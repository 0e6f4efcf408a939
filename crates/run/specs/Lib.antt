-- What the functions on runs promise.
pub mod Promises
pub mod Finding
