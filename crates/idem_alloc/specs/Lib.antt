pub mod Numbers
pub mod Made
pub mod Retired
-- Passed on to the layers above, so that they needn't name these libraries themselves.
pub use Rattle.commit_log
