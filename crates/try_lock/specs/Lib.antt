pub mod Reached
pub mod Prepares
pub mod Publishes
pub mod Ends
pub mod Watches
pub mod Planning
pub mod Plans
pub mod Contents
-- Passed on to the layers above, so that they needn't name these libraries themselves.
pub use Rattle.section_runs.specs.commit_log
pub use Rattle.epoch_slots
pub use Rattle.section_runs
