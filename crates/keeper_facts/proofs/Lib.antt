mod Changes
pub mod Lists
pub mod Keeping
mod Runs
mod Steps
mod Telling
