-- What a line of a script prints and leaves.
pub mod Performing
pub mod Promises
