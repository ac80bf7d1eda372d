pub mod Settled
pub mod Clearing
-- Passed on to the layers above, so that they needn't name these libraries themselves.
pub use Rattle.try_lock.specs.epoch_slots
pub use Rattle.try_lock.specs.section_runs.specs.runner_gate
pub use Rattle.try_lock
