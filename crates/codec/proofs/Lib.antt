-- A number, read and stored byte by byte.
pub mod Stores
