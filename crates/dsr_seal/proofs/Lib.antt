pub mod Hex
pub mod Ends
pub mod SealLines
pub mod Inside
