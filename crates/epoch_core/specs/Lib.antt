pub mod Update
pub mod State
pub mod Moves
pub mod Events
pub mod Sound
pub mod Schedules
pub mod Frame
pub mod Reuse
pub mod Lists
pub mod Follows
pub mod Commits
pub mod History
pub mod Freed
pub mod Starts
pub mod Round
-- Passed on to the layers above, so that they needn't name these libraries themselves.
pub use Rattle.small_lemmas
