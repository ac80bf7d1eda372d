pub mod Keeping
pub mod Working
mod Released
