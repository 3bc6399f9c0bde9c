-- The definitions to be trusted: the lines of a text and their faults, its events, and the result of reading a file.
pub mod Readings
pub mod Faults
pub mod Texts
pub mod Runs
pub mod Sources
