-- The door for C: an answer in numbers, what the exports promise, and memory of zeros.
pub mod Numbers
pub mod Promises
pub mod Zeroed
