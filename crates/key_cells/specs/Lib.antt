pub mod Keyed
pub mod Steps
-- Passed on to the layers above, so that they needn't name these libraries themselves.
pub use Rattle.section_body
pub use Rattle.shared_laws
