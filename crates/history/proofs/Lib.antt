-- The demands, proved of the rule sheet's step and of every run of the code.
pub mod Following
pub mod Taking
pub mod Refusing
pub mod Meaning
pub mod Counting
pub mod Effects
pub mod Lifetimes
pub mod Half
pub mod DemandsMet
pub mod Singly
pub mod ShutOut
pub mod Saying
pub mod Unique
