pub mod Freed
-- Passed on to the layers above, so that they needn't name these libraries themselves.
pub use Rattle.machine_epochs
pub use Rattle.runner_facts
