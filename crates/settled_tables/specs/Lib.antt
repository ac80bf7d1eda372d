pub mod Keeper
pub mod Seats
pub mod Once
-- Passed on to the layers above, so that they needn't name these libraries themselves.
pub use Rattle.closed_words
pub use Rattle.settling
