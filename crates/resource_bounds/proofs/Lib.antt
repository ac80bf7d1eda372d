mod Weights
pub mod Releases
mod Runs
mod Parts
pub mod Words
mod Sums
mod Kept
pub mod Reached
mod Lines
mod MakesSums
pub mod Entries
pub mod Above
mod Sections
mod MakesKept
pub mod MakesReached
pub mod Inserts
pub mod Quiet
mod Lists
mod Live
pub mod InUseReached
