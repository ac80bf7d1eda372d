pub mod Completing
pub mod Finishing
pub mod Moving
pub mod Stores
