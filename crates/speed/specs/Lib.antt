pub mod Asked
pub mod Fresh
pub mod Rounds
pub mod Scenes
pub mod Workers
