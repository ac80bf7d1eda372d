pub mod Places
pub mod Knowing
pub mod Following
pub mod Leads
pub mod Gathering
pub mod Ordering
pub mod Standing
