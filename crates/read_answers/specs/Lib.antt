pub mod Looks
pub mod Answers
-- Passed on to the layers above, so that they needn't name these libraries themselves.
pub use Rattle.completed_memory
