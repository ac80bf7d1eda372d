pub mod Stamped
pub mod Turns
-- Passed on to the layers above, so that they needn't name these libraries themselves.
pub use Rattle.map_history
