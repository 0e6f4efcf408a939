-- What a line of a script asks for.
pub mod Orders
pub mod Promises
