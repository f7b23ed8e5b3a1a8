pub mod Outcome
pub mod Process
pub mod Ran
