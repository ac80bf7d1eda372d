pub mod Moves
pub mod Pending
