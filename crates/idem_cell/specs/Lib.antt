pub mod Loaded
pub mod Stored
-- Passed on to the layers above, so that they needn't name these libraries themselves.
pub use Rattle.machine_epochs
pub use Rattle.machine_states
pub use Rattle.runner_gate
pub use Rattle.section_lines
