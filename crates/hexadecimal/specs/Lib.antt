-- Hexadecimal, and what writing and reading it promises.
pub mod Hex
pub mod Lending
pub mod Promises
