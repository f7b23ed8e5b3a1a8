pub mod Runs
pub mod Identifiers
pub mod Parts
pub mod Starts
pub mod Utf8
pub mod Digits
