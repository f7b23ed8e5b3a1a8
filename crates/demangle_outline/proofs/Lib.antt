pub mod Levels
pub mod Alike
pub mod Worlds
pub mod Readings
pub mod Sees
