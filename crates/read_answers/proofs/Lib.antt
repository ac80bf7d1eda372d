pub mod Unchanged
pub mod Imagined
pub mod Answering
