pub mod Lists
pub mod Standing
pub mod Tries
pub mod Briefly
pub mod Trying
pub mod Along
pub mod Spent
