pub mod Telling
pub mod Asked
pub mod Running
pub mod Next
pub mod Linking
mod Emptying
pub mod Committing
pub mod Halting
