pub mod Enabled
pub mod Local
pub mod Logs
pub mod Stops
