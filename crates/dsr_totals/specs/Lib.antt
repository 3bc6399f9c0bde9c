-- The definitions to be trusted; Steps has those of the steps by which statements are opened.
pub mod CommandLine
pub mod Lists
pub mod Refusals
pub mod Totaling
pub mod Serving
pub mod Steps
