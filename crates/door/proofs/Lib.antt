-- The laws of the door.
pub mod NumberLaws
pub mod ZeroLaws
