-- Runs of calls, and the customer's demands over them, in the order to read them.
pub mod Calls
pub mod Runs
pub mod Moments
pub mod Demands
pub mod AtMostHalf
pub mod Code
pub mod Singly
pub mod Versions
pub mod Said
pub mod OneOutcome
