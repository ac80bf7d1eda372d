pub mod Counts
pub mod Entries
pub mod Legal
pub mod MemorySink
pub mod Page
pub mod Ranks
pub mod Report
pub mod Sink
-- Passed on to the layers above, so that they needn't name these libraries themselves.
pub use Rattle.fault_count
