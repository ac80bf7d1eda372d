pub mod Idle
pub mod Kept
mod Moves
pub mod OneCell
pub mod Open
pub mod Places
mod Quiet
pub mod Reached
mod Guards
pub mod EpochsReached
pub mod Onward
mod Slots
mod Resting
pub mod BoardReached
mod Lines
mod Parts
mod Cells
mod Goes
mod State
mod SectionsKept
mod Published
mod Ends
pub mod SectionsReached
