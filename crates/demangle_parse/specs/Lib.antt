pub mod Adds
pub mod Levels
pub mod Reading
