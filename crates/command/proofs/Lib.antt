-- What a command leaves, a line carried out, a whole text, and the laws of the promise.
pub mod Commanded
pub mod Carrying
pub mod Whole
pub mod Calls
pub mod ProgramLaws
