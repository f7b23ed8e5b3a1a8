pub mod Cuts
pub mod Resolved
pub mod Earlier
pub mod Ends
