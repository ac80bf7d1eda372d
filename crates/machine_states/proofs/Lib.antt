pub mod Firsts
pub mod Runs
pub mod Steps
pub mod Sights
pub mod Updates
pub mod FirstSights
pub mod Reached
pub mod Marks
