-- The definitions that relate the fields of the code to those of `meaning`.
pub mod Feeds
pub mod Taps
pub mod Settles
pub mod Arrays
pub mod Ways
