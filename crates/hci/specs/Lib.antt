-- What reading and writing a message promises, and the customer's words of them.
pub mod Promises
pub mod Demanded
