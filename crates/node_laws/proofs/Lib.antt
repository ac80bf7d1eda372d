pub mod Cells
pub mod Forms
pub mod Walked
