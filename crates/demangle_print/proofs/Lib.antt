pub mod Answered
pub mod Declares
pub mod Begun
pub mod Held
pub mod Turns
