pub mod Parts
pub mod Machine
pub mod Local
pub mod Logs
pub mod Enabled
pub mod NextSteps
