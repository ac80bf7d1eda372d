pub mod Steps
pub mod Gets
pub mod TwoSteps
