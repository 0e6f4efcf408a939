-- What the writing of an answer promises.
pub mod Promises
