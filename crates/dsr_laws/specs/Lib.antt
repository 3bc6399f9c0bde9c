-- The definitions of the laws.
pub mod layer
