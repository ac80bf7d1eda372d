pub mod Spent
pub mod Taken
pub mod Stale
-- Passed on to the layers above, so that they needn't name these libraries themselves.
pub use Rattle.machine_epochs
