pub mod Blocks
mod Preparing
mod Publishing
pub mod Guarding
pub mod Watching
mod Helping
