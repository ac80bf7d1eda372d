pub mod Reached
pub mod Opened
pub mod Registers
pub mod Bodies
pub mod Goes
pub mod Takes
pub mod Ends
pub mod Ended
-- Passed on to the layers above, so that they needn't name these libraries themselves.
pub use Rattle.idem_alloc.specs.commit_log
pub use Rattle.nested_lock.specs.machine_facts
pub use Rattle.nested_lock
pub use Rattle.idem_cell.specs.runner_gate
