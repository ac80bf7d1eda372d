pub mod Entries
pub mod Replays
pub mod Still
pub mod Turns
pub mod Unique
pub mod Replies
