mod Planned
mod Tried
mod Left
pub mod Served
mod Recent
pub mod Along
mod Scanned
mod Swept
mod Reclaimed
mod Attempted
