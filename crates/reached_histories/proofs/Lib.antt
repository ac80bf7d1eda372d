pub mod Quietly
mod Learning
pub mod Publications
pub mod Steps
mod Fit
mod LookParts
mod LooksKept
mod Looking
mod ReadParts
pub mod Onward
pub mod Reached
mod Words
pub mod RealTime
pub mod Histories
pub mod First
pub mod Supplying
pub mod Ending
pub mod Parts
pub mod Keeping
pub mod Publishing
