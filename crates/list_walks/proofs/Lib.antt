mod Steps
pub mod Leading
pub mod Gets
mod Far
