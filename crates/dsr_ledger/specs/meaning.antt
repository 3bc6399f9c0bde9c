-- The definitions to be trusted: what a report is.
pub mod Limits
pub mod Files
pub mod Verdicts
pub mod Bookings
pub mod Ledger
pub mod Findings
pub mod Reports
pub mod Laws
