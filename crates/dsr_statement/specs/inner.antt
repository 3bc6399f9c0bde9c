-- The definitions that relate the code to those of `meaning`.
pub mod Sinks
pub mod Rows
pub mod Pieces
pub mod Numbers
pub mod Cuts
pub mod Lenient
pub mod Near
pub mod After
