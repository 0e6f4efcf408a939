-- What a tidy promises.
pub mod Promises
