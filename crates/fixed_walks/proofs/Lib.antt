pub mod Gathering
pub mod Gets
pub mod KeySuits
pub mod Leading
pub mod Steady
