mod Leaving
pub mod Agreed
pub mod Kept
pub mod Reached
mod Facts
mod Sure
mod Loading
mod Agreeing
mod TakenLeaving
mod TakenKept
pub mod TakenReached
mod StaleLeaving
mod StaleKept
pub mod StaleReached
