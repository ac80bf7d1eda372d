pub mod Chain
pub mod Elsewhere
pub mod Fit
mod Fitting
pub mod HalfFit
pub mod Halves
pub mod Maps
pub mod NodeChanges
pub mod Places
pub mod Planner
pub mod Reaching
pub mod Sections
pub mod TableGives
pub mod TableKeeps
pub mod TableLaws
pub mod TableShape
pub mod TableSteps
pub mod TableStores
pub mod TableTurn
pub mod TwoWalks
pub mod WalkFacts
pub mod Walks
mod Falling
pub mod Near
pub mod TwoNear
pub mod Retiring
