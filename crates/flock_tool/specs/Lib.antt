pub mod Checks
pub mod Commands
pub mod End
pub mod Complete
pub mod Finish
pub mod Loads
pub mod Plans
pub mod Runs
pub mod Streams
pub mod Valid
pub mod Alone
pub mod Asks
pub mod Gates
pub mod Reads
pub mod Exits
-- Passed on to the layers above, so that they needn't name these libraries themselves.
pub use Rattle.command_line
