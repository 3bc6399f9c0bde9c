-- The definitions to be trusted: what is refused, the texts that a statement is of, and the result of a run.
pub mod Texts
pub mod Outcomes
