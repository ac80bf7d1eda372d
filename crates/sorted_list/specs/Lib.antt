pub mod Planned
pub mod Gathered
pub mod Stands
-- Passed on to the layers above, so that they needn't name these libraries themselves.
pub use Rattle.list_walks.specs.list_laws
