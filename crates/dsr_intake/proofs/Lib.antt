pub mod Common
pub mod EndLemmas
pub mod Promises
pub mod Joining
pub mod Filing
pub mod Rounds
