-- The definitions that relate the code to the bytes of a text and the items of a list.
pub mod Bytes
pub mod Kept
pub mod Lends
pub mod Short
pub mod Views
