pub mod Joined
pub mod Supplied
pub mod Chunks
pub mod Goes
-- Passed on to the layers above, so that they needn't name these libraries themselves.
pub use Rattle.machine_epochs
pub use Rattle.machine_scenes
