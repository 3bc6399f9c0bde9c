-- The definitions to be trusted
pub mod CommandLine
pub mod World
pub mod Inputs
pub mod Faults
pub mod LayoutFile
pub mod NewFiles
pub mod Outputs
pub mod Programs
