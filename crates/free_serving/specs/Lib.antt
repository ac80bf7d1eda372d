pub mod Services
pub mod Left
pub mod One
pub mod Freely
-- Passed on to the layers above, so that they needn't name these libraries themselves.
pub use Rattle.serving.specs.attempts.specs.lock_words
pub use Rattle.serving.specs.one_worker.specs.resource_bounds
pub use Rattle.serving
