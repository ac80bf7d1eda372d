pub mod Following
pub mod Leads
mod Standing
