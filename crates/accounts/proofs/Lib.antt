pub mod Sums
pub mod Leading
pub mod Making
mod Wanting
pub mod Listing
