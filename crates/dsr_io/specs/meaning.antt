-- The definitions to be trusted: the state of a source and how the count of its reads grows, and the state of an outlet.
pub mod Told
pub mod Written
