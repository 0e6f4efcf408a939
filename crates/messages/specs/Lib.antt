-- Which numbers fit their fields.
pub mod Fitting
