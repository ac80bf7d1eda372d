pub mod RealTime
pub mod View
pub mod Wants
pub mod Course
pub mod Reads
pub mod Parts
-- Passed on to the layers above, so that they needn't name these libraries themselves.
pub use Rattle.caller_facts
pub use Rattle.history_orders
pub use Rattle.caller_facts.specs.section_runs.specs.runner_gate
