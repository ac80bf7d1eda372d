pub mod Memories
pub mod Orders
