-- The definitions to be trusted: how a text is cut into lines, a line into cells and a cell into values, and which texts spell which value.
pub mod Lines
pub mod Cells
pub mod Numbers
pub mod Texts
pub mod Days
pub mod Written
