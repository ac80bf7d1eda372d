pub mod State
pub mod Tests
pub mod Lists
-- Passed on to the layers above, so that they needn't name these libraries themselves.
pub use Rattle.block_words
pub use Rattle.epoch_core
pub use Rattle.guard_core
pub use Rattle.structure_laws
