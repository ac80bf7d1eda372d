pub mod Bools
pub mod Lists
pub mod Numbers
