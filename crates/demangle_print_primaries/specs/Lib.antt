pub mod Made
pub mod Literals
pub mod Levels
