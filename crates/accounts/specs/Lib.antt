pub mod Moves
pub mod Walk
pub mod Made
pub mod Balances
-- Passed on to the layers above, so that they needn't name these libraries themselves.
pub use Rattle.account_laws
