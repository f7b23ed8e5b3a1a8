pub mod Adding
pub mod Behind
pub mod Made
pub mod Places
pub mod Tries
