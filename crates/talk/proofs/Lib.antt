-- What a line prints.
pub mod Printing
