-- What a line asks for, and what it prints.
pub mod AskedLaws
