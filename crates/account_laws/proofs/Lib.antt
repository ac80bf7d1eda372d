pub mod Totals
pub mod TransferSteps
pub mod Places
pub mod Fitting
pub mod Turns
pub mod AccountLaws
