pub mod Asking
pub mod CheckPrinting
pub mod Commanding
pub mod Completing
pub mod Counting
pub mod Ends
pub mod Enough
pub mod EnoughAlone
pub mod Finishing
pub mod GenPrinting
pub mod Giving
pub mod Loading
pub mod Ordered
pub mod Reported
pub mod Reporting
pub mod Running
pub mod Sizes
pub mod Whole
mod OneKeyed
mod Others
mod Owned
mod Traced
