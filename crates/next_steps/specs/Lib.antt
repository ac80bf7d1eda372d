pub mod Steps
pub mod Rooms
pub mod Numbers
pub mod Looks
pub mod Enabled
pub mod Stages
pub mod Links
