mod Reading
pub mod Offering
mod Turning
pub mod Planned
pub mod Serving
mod Numbered
mod Unlocked
mod HashRow
mod Next
mod Sharing
mod Banks
