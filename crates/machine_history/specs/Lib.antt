pub mod Laws
pub mod Steps
pub mod Tied
pub mod Memory
-- Passed on to the layers above, so that they needn't name these libraries themselves.
pub use Rattle.history_core
