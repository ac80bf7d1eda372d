pub mod State
pub mod Stands
pub mod Supplied
pub mod Chunks
pub mod Goes
pub mod Sweeps
-- Passed on to the layers above, so that they needn't name these libraries themselves.
pub use Rattle.machine_agreement
