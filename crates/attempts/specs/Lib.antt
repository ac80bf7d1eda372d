pub mod Reclaims
pub mod Course
pub mod Attempts
pub mod Learned
pub mod RealTime
pub mod Rests
-- Passed on to the layers above, so that they needn't name these libraries themselves.
pub use Rattle.caller_facts
pub use Rattle.caller_facts.specs.section_runs.specs.commit_log
pub use Rattle.caller_facts.specs.epoch_slots
pub use Rattle.caller_facts.specs.lock_walks
pub use Rattle.lock_words
pub use Rattle.request_facts
pub use Rattle.caller_facts.specs.lock_walks.specs.runner_facts
pub use Rattle.caller_facts.specs.try_lock
