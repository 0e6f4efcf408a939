-- The rule sheet's own values and its whole case, computed from the definitions, and where a definition could be misread.
pub mod TableP
pub mod Ranges
pub mod WholeCase
pub mod Readings
pub mod TidyCase
pub mod MessageValues
