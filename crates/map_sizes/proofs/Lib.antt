pub mod Peaks
pub mod InOrder
