-- What the reads of a source give.
pub mod Pieces
