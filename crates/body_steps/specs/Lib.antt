pub mod Node
pub mod Forms
