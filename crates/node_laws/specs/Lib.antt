pub mod Walked
pub mod Forms
