-- The definitions that relate the fields and results of the code to those of `meaning`.
pub mod Rows
pub mod Usual
