-- What the reading of an image's frame promises.
pub mod Promises
