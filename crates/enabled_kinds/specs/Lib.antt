pub mod Kinds
pub mod May
pub mod Tried
