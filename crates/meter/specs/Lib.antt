-- What a moved meter is.
pub mod Moved
