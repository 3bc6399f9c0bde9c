-- What the world in memory has.
pub mod Disks
