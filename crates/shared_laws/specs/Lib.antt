pub mod Nodeless
pub mod Listing
pub mod Flagged
pub mod Gathered
