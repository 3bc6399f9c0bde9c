-- Boxed blocks.
pub mod Boxes
