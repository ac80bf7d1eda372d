pub mod Elements
pub mod Served
pub mod Legality
pub mod Few
pub mod Closed
pub mod Reading
pub mod Printed
