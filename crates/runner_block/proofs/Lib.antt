pub mod Once
pub mod Marking
pub mod Rooms
pub mod Freed
