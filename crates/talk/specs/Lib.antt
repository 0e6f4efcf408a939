-- The probe's lines that read and write a message.
pub mod Promises
