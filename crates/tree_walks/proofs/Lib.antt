mod Steps
mod Knowing
pub mod Leading
pub mod Gets
mod Far
