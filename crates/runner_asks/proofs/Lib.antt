mod Latest
mod Lines
pub mod Loads
