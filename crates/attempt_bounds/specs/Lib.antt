pub mod Lone
pub mod Spared
-- Passed on to the layers above, so that they needn't name these libraries themselves.
pub use Rattle.attempts
pub use Rattle.lone_plans.specs.one_worker
pub use Rattle.version_words
