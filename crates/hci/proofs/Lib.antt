-- What the functions of this crate are proved by, and what follows from the promises.
pub mod Tests
pub mod Finding
pub mod Storing
pub mod Calls
