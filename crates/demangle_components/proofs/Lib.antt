pub mod Woven
pub mod Calls
pub mod Equality
pub mod Copies
