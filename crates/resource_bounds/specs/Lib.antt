pub mod Versions
pub mod Makes
pub mod InUse
-- Passed on to the layers above, so that they needn't name these libraries themselves.
pub use Rattle.machine_epochs
pub use Rattle.machine_scenes
pub use Rattle.reached_histories
