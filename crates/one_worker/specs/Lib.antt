pub mod Alone
pub mod Uncrossed
pub mod Lone
pub mod Ungiven
-- Passed on to the layers above, so that they needn't name these libraries themselves.
pub use Rattle.runner_facts.specs.machine_facts
pub use Rattle.runner_facts.specs.next_steps
pub use Rattle.resource_bounds.specs.reached_histories
pub use Rattle.resource_bounds
