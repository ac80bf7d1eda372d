pub mod Hands
pub mod Laws
