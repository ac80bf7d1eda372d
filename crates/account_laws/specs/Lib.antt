pub mod Money
pub mod Accounts
-- Passed on to the layers above, so that they needn't name these libraries themselves.
pub use Rattle.shared_laws
