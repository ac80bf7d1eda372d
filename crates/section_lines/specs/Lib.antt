pub mod Line
pub mod Runs
pub mod Progress
pub mod Rests
-- Passed on to the layers above, so that they needn't name these libraries themselves.
pub use Rattle.structure_laws.specs.table_words.specs.small_lemmas
pub use Rattle.structure_laws
