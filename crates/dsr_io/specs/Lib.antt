-- The definitions: what the contracts of a run and of the programs reach (`meaning`), and what this crate's other
-- calls promise (`layer`).
pub mod meaning
pub mod layer
