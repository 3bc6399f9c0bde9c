-- What the crate's own calls promise, as far as the contracts of a run and of the programs do not reach it.
pub mod Lanes
pub mod Laws
pub mod Pool
pub mod Rule
pub mod Views
pub mod Way
