pub mod Slots
-- Passed on to the layers above, so that they needn't name these libraries themselves.
pub use Rattle.machine_states.specs.epoch_core
pub use Rattle.machine_states.specs.table_words
pub use Rattle.version_words
