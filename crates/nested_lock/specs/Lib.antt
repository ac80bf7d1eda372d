pub mod Answers
pub mod Held
pub mod Taken
pub mod Dropped
-- Passed on to the layers above, so that they needn't name these libraries themselves.
pub use Rattle.machine_facts
