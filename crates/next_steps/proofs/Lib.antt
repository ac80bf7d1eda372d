pub mod Touched
mod Looks
pub mod Parts
pub mod Runs
mod Clock
mod Ends
pub mod Fits
mod FitsKept
pub mod Tests
mod Releases
mod Standing
mod Filling
mod RoomParts
mod SlotFrames
mod RoomsKept
mod RoomsReached
mod PartNumbers
pub mod Numbers
pub mod Enabled
pub mod GoingOn
pub mod Stages
pub mod Lines
mod Links
pub mod Stocks
