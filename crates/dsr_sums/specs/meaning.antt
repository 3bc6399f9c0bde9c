-- The definitions to be trusted: what is added up, what it adds up to, and which statements are refused.
pub mod Accounts
pub mod Postings
pub mod Totals
pub mod Statements
pub mod Answers
pub mod Sources
