pub mod Shown
pub mod Naming
pub mod ReachedWith
pub mod Private
pub mod Bases
pub mod Rule
pub mod RunnerState
pub mod TableState
pub mod Events
pub mod Place
pub mod Kept
pub mod Closed
pub mod Stages
-- Passed on to the layers above, so that they needn't name these libraries themselves.
pub use Rattle.machine_invariant
pub use Rattle.runner_block
