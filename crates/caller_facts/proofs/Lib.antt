pub mod Knowing
pub mod Counting
pub mod Standing
pub mod Shapes
