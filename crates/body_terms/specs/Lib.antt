pub mod Act
pub mod Cost
pub mod Counted
pub mod Fault
pub mod Line
pub mod Memory
pub mod Plain
pub mod Run
pub mod Shape
pub mod Trail
pub mod Update
pub mod Word
-- Passed on to the layers above, so that they needn't name these libraries themselves.
pub use Rattle.block_words
