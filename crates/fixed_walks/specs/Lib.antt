pub mod Fixed
pub mod Keys
pub mod Walk
-- Passed on to the layers above, so that they needn't name these libraries themselves.
pub use Rattle.runner_parts.specs.structure_laws.specs.map_history
pub use Rattle.lock_walks.specs.try_lock
