pub mod Asks
pub mod Counts
pub mod Planned
-- Passed on to the layers above, so that they needn't name these libraries themselves.
pub use Rattle.fault_count
