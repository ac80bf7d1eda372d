pub mod Sections
pub mod Parts
pub mod Again
pub mod Tickets
-- Passed on to the layers above, so that they needn't name these libraries themselves.
pub use Rattle.attempts
