pub mod Shown
pub mod Kinds
pub mod Readers
pub mod Cells
pub mod Steps
pub mod Kept
pub mod Schedules
pub mod Supplied
