pub mod Alone
pub mod Generated
pub mod Orders
pub mod Parts
pub mod Sums
pub mod ReportsAlone
