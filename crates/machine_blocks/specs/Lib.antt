pub mod Stands
pub mod Keeps
pub mod Writes
-- Passed on to the layers above, so that they needn't name these libraries themselves.
pub use Rattle.block_words
pub use Rattle.machine_guards
