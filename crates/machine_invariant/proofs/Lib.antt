pub mod Basics
pub mod Asked
mod Limbo
pub mod Jointly
pub mod Slots
pub mod Trails
mod Lines
pub mod Sections
pub mod Unwon
pub mod Lengths
pub mod Holding
pub mod Few
pub mod LogWords
pub mod Linked
pub mod States
pub mod Along
pub mod Runs
mod Ties
pub mod Parts
pub mod Quiet
pub mod Thunks
pub mod Sights
pub mod Chunked
mod Reaching
pub mod SuppliesSections
mod SuppliesSlots
mod Meeting
mod Pieces
mod SlotSteps
mod Makes
mod Retires
mod Outside
mod Plain
mod Entering
mod Walking
mod Publishing
mod Reading
mod SectionsRetired
mod Freeing
pub mod First
pub mod Following
pub mod AllKinds
pub mod After
pub mod LogSteps
pub mod Rising
pub mod Keeping
