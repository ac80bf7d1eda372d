pub mod Sections
pub mod History
pub mod RealTime
pub mod Laws
pub mod Requests
pub mod Kept
pub mod Looks
pub mod Supplies
pub mod Keeping
pub mod Publishing
-- Passed on to the layers above, so that they needn't name these libraries themselves.
pub use Rattle.machine_history.specs.history_core
pub use Rattle.machine_facts
pub use Rattle.machine_history
