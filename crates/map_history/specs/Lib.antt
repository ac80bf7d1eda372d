pub mod AtKey
pub mod History
pub mod Keys
pub mod Replay
pub mod Requests
pub mod Words
