-- The definitions that relate the code to those of `meaning`.
pub mod Parts
pub mod Digits
