-- The definitions to be trusted: the columns of each kind and their spellings, the faults of a line, its record, the
-- properties of a record, and layouts.
pub mod Tables
pub mod Records
pub mod Values
pub mod Layouts
