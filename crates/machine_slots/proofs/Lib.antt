pub mod Locks
pub mod Cells
pub mod Runs
pub mod Filled
pub mod Stores
