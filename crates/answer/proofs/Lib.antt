-- The words of an answer.
pub mod Words
