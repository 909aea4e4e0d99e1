pub mod Scenes
pub mod Moving
pub mod Samples
