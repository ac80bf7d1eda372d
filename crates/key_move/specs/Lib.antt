pub mod Moving
pub mod Planned
