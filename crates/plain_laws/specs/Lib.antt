pub mod Runs
pub mod TreeRuns
pub mod MoveRuns
pub mod ListRuns
