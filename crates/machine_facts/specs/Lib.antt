pub mod Steps
pub mod Got
pub mod Watched
pub mod Outcomes
pub mod Known
pub mod States
pub mod Passed
pub mod Once
pub mod After
pub mod Told
-- Passed on to the layers above, so that they needn't name these libraries themselves.
pub use Rattle.machine_invariant.specs.machine_blocks.specs.machine_guards.specs.machine_agreement
pub use Rattle.machine_invariant
pub use Rattle.machine_invariant.specs.machine_slots
