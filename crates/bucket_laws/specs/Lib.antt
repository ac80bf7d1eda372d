pub mod Chain
pub mod Walk
pub mod Halves
pub mod TwoWalk
pub mod Buckets
pub mod Short
-- Passed on to the layers above, so that they needn't name these libraries themselves.
pub use Rattle.bucket_bodies
