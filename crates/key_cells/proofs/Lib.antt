pub mod CellSteps
pub mod Fitting
pub mod KeyedLaws
pub mod Places
pub mod Retiring
pub mod SectionTurn
mod KeyFitting
