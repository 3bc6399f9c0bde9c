-- The definitions that relate the fields of the code to those of `meaning`.
pub mod Stages
pub mod Grammars
pub mod Cutting
pub mod Allowance
pub mod Standing
pub mod ReaderSteps
