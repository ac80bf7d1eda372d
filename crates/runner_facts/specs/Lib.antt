pub mod Facts
pub mod Names
pub mod Keeper
pub mod Worn
pub mod Own
-- Passed on to the layers above, so that they needn't name these libraries themselves.
pub use Rattle.machine_facts
pub use Rattle.next_steps
