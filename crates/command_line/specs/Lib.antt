pub mod Commands
pub mod Generated
pub mod Halts
pub mod Numbers
pub mod Options
pub mod Parser
pub mod Written
-- Passed on to the layers above, so that they needn't name these libraries themselves.
pub use Rattle.trace_reader
