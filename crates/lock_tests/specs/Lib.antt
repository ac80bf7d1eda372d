pub mod Scenes
pub mod Workers
pub mod Asked
pub mod Closing
pub mod HashScene
pub mod AttemptScene
pub mod Sharing
pub mod Bank
