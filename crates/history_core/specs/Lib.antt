pub mod Events
pub mod Frame
pub mod Legal
pub mod Made
pub mod RealTime
pub mod Schedules
pub mod Sound
pub mod State
