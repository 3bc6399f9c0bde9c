pub mod Listing
pub mod Opened
pub mod Serving
pub mod Words
