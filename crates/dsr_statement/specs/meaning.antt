-- The definitions to be trusted: the cells of each line, what they print and which are valid; the lines of a report's
-- statement, their order and their bytes; its seal; what a text is read as; and whether a statement has remarks.
pub mod Names
pub mod Digests
pub mod Cells
pub mod Lines
pub mod Faults
pub mod Order
pub mod Readings
pub mod Statement
pub mod Seals
pub mod Status
