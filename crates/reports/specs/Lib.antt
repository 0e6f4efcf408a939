-- What the list of reports promises.
pub mod Pairs
pub mod Promises
