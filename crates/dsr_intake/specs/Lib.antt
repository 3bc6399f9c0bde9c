-- The definitions: what the contracts of a run and of the programs reach (`meaning`), what this crate's other calls
-- promise (`layer`), and the inside (`inner`).
pub mod meaning
pub mod layer
pub mod inner
