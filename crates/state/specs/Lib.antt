-- The lines of a schedule's state, and what writing them promises.
pub mod State
pub mod Promises
