pub mod Table
pub mod Two
-- Passed on to the layers above, so that they needn't name these libraries themselves.
pub use Rattle.section_body
