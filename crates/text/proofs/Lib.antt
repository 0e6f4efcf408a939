-- Bytes put one after the other, and the turns of the loops that read.
pub mod Putting
pub mod Opening
pub mod Finding
pub mod Digits
pub mod Rows
