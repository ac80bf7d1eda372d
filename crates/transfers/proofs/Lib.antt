mod Scenes
mod Making
