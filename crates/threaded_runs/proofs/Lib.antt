mod Picked
mod Counting
mod Seats
mod OneTrace
mod Owning
mod Stopping
mod Spending
mod Asked
mod Gates
pub mod Sparing
mod Closing
mod Ending
mod Alone
mod Lone
