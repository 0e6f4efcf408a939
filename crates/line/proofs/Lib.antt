-- What a line says.
pub mod Spoken
