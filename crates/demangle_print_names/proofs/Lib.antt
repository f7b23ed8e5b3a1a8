pub mod Qualified
pub mod Functions
pub mod Handles
