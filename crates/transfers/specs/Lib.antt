pub mod Scene
pub mod Made
