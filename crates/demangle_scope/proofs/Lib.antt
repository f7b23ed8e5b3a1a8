pub mod Members
pub mod Entries
pub mod Answered
