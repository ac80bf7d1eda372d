pub mod Walks
mod Limbo
mod Keeping
mod Counts
pub mod Blocks
mod Joined
mod Raising
mod Worn
pub mod Names
pub mod Keeper
pub mod Lines
pub mod Logs
pub mod Runs
mod WornWorn
mod OwnKeeping
pub mod Reached
