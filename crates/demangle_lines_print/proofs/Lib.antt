pub mod Answered
pub mod Declares
pub mod Begun
pub mod Begins
pub mod Told
