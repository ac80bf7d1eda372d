pub mod Own
pub mod Counts
pub mod Jobs
pub mod Room
pub mod Runs
pub mod Asks
pub mod Gates
pub mod Lone
-- Passed on to the layers above, so that they needn't name these libraries themselves.
pub use Rattle.settled_tables.specs.closed_words
pub use Rattle.free_serving
pub use Rattle.map_sizes
pub use Rattle.settled_tables.specs.settling.specs.runner_gate
