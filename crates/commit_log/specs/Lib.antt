pub mod Runs
pub mod Links
pub mod Committed
pub mod Asked
pub mod Halted
-- Passed on to the layers above, so that they needn't name these libraries themselves.
pub use Rattle.next_steps
pub use Rattle.version_words
