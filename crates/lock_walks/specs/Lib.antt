pub mod Way
pub mod Own
pub mod Followed
pub mod Led
pub mod Steady
pub mod Retires
pub mod Gets
pub mod Glances
pub mod Wants
-- Passed on to the layers above, so that they needn't name these libraries themselves.
pub use Rattle.runner_facts
pub use Rattle.try_lock
pub use Rattle.try_lock.specs.commit_log.specs.version_words
