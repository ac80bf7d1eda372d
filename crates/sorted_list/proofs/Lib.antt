pub mod Following
mod Leads
mod Gathering
mod Standing
