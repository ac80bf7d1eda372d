pub mod First
pub mod WalkReads
pub mod Forms
pub mod BodyShapes
pub mod Fit
mod Fitting
pub mod TreeShape
pub mod Removal
pub mod Insertion
pub mod Replacement
pub mod Views
pub mod Planning
pub mod Landed
pub mod Found
mod Open
mod Gives
pub mod Alike
pub mod Turn
mod ReplaceTurn
mod TurnStores
pub mod Shown
mod Grown
mod StoreChange
pub mod Apart
mod MarkStore
pub mod Changed
mod Inserting
mod InsertStore
mod Removing
mod LinkStore
mod Replacing
mod ReplaceStore
mod KeepsStore
pub mod KeepsFrame
pub mod KeepsPass
pub mod KeepsRead
mod KeepsSlots
mod KeepsMake
mod KeepsRetire
mod KeepsCollect
mod TreeKeeps
mod Sized
pub mod TreeLaws
mod Falling
pub mod Near
pub mod Retiring
