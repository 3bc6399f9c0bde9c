-- The definitions that relate the code to those of `meaning`.
pub mod Books
pub mod Plus
pub mod SumsLines
pub mod Readings
pub mod Totaling
