-- What the tree's functions promise.
pub mod Under
pub mod Promises
