pub mod Histories
-- Passed on to the layers above, so that they needn't name these libraries themselves.
pub use Rattle.reached_histories
pub use Rattle.version_words
