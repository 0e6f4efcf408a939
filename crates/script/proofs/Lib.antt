-- What each order prints, and what it leaves.
pub mod Saved
pub mod Acting
