pub mod NameClass
pub mod Places
pub mod Adds
pub mod Optional
pub mod Sized
pub mod Numbers
pub mod Lists
