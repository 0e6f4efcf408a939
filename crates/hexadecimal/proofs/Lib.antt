-- Hexadecimal, written and read back.
pub mod HexLaws
pub mod HexReading
pub mod Printing
