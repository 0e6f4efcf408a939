-- What the reading and writing of a text promises.
pub mod Promises
