pub mod Outside
mod Scanning
mod Looking
mod Collecting
mod Sweeping
pub mod Boarding
pub mod Losing
