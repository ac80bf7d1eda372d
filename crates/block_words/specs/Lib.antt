pub mod Blocks
-- Passed on to the layers above, so that they needn't name these libraries themselves.
pub use Rattle.table_words
