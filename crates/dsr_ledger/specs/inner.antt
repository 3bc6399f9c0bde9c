-- The definitions that relate the state of the books to those of `meaning`.
pub mod Held
pub mod Forms
pub mod Numbered
pub mod Seated
pub mod Tallies
pub mod Recordings
pub mod Summaries
pub mod IdRanks
pub mod Ids
pub mod FileSteps
pub mod Stands
pub mod Books
pub mod BooksWords
pub mod Assembly
pub mod View
