pub mod Serving
-- Passed on to the layers above, so that they needn't name these libraries themselves.
pub use Rattle.attempt_bounds
pub use Rattle.attempt_bounds.specs.attempts
pub use Rattle.attempt_bounds.specs.one_worker
