-- What reading a line finds.
pub mod Row
