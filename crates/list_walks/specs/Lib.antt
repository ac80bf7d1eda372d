pub mod Walking
pub mod Leading
pub mod Gets
-- Passed on to the layers above, so that they needn't name these libraries themselves.
pub use Rattle.runner_parts.specs.epoch_core.specs.small_lemmas
pub use Rattle.runner_parts.specs.structure_laws
pub use Rattle.list_laws
