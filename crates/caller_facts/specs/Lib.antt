pub mod Knowing
pub mod Counted
pub mod Asking
-- Passed on to the layers above, so that they needn't name these libraries themselves.
pub use Rattle.lock_walks.specs.try_lock.specs.epoch_slots
pub use Rattle.lock_walks
pub use Rattle.request_facts
pub use Rattle.lock_walks.specs.try_lock.specs.section_runs
pub use Rattle.lock_walks.specs.try_lock
pub use Rattle.lock_walks.specs.version_words
