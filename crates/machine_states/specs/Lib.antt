pub mod World
pub mod First
pub mod Schedules
pub mod Sight
pub mod Reached
-- Passed on to the layers above, so that they needn't name these libraries themselves.
pub use Rattle.runner_steps.specs.runner_parts.specs.guard_core
pub use Rattle.runner_steps.specs.body_terms
pub use Rattle.runner_steps.specs.runner_parts.specs.epoch_core
pub use Rattle.runner_steps.specs.map_history
pub use Rattle.runner_steps.specs.runner_parts
pub use Rattle.runner_steps
pub use Rattle.runner_steps.specs.runner_parts.specs.structure_laws
pub use Rattle.runner_steps.specs.table_words
