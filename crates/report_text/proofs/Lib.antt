pub mod Counting
pub mod Legality
pub mod Lines
pub mod Precedence
pub mod Ranking
pub mod Texts
pub mod Turns
