-- What the probe's lines that lend a list ask for, and what is promised of them.
pub mod Lines
pub mod Promises
