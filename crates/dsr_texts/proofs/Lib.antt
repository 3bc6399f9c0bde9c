pub mod Common
pub mod ByteLists
pub mod Lent
pub mod Shorts
pub mod Views
