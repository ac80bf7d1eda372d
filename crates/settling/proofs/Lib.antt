mod Blocks
mod Growing
mod Clears
mod Settling
mod Ran
