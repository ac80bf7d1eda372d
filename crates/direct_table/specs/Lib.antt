-- Passed on to the layers above, so that they needn't name these libraries themselves.
pub use Rattle.direct_laws
pub use Rattle.fixed_walks.specs.map_history
pub use Rattle.fixed_walks.specs.try_lock
