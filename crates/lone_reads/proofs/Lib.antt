mod Refused
pub mod Served
