pub mod Entries
pub mod Reserves
pub mod Collects
pub mod Hands
pub mod Sweeps
pub mod Board
