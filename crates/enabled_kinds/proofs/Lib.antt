pub mod Asked
pub mod Bits
pub mod Bounds
pub mod Numbers
pub mod Private
pub mod Published
pub mod Tells
