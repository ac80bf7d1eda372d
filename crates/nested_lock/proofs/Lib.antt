pub mod Reading
mod Holding
mod Dropping
pub mod Halves
