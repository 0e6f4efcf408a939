-- What the search for a place promises.
pub mod Steps
pub mod Promises
