pub mod Each
pub mod Following
pub mod Brief
pub mod Walking
mod Leading
mod Planning
mod Onward
