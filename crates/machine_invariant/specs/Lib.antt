pub mod Whole
pub mod Slots
pub mod Trails
pub mod Sections
pub mod Along
pub mod States
pub mod After
pub mod Lengths
pub mod LogWords
pub mod Rising
-- Passed on to the layers above, so that they needn't name these libraries themselves.
pub use Rattle.machine_blocks
pub use Rattle.machine_slots
