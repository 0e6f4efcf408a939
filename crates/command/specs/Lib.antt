-- What the command program promises.
pub mod Promises
