-- The definitions to be trusted: the names of the columns, works and blocks, the parts of an event, and the events of one file.
pub mod Openings
pub mod Names
pub mod Orderly
pub mod Works
pub mod Blocks
