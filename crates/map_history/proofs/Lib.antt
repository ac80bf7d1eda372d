pub mod ByKey
pub mod Cells
pub mod Commuting
pub mod Entries
pub mod Sizes
pub mod Values
pub mod Words
