pub mod Apart
pub mod Counts
pub mod Tallies
-- Passed on to the layers above, so that they needn't name these libraries themselves.
pub use Rattle.run_reports
