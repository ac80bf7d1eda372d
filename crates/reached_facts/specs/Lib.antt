pub mod Facts
-- Passed on to the layers above, so that they needn't name these libraries themselves.
pub use Rattle.keeper_facts
pub use Rattle.request_facts
