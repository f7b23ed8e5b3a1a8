pub mod Asked
pub mod Causes
pub mod Codes
pub mod Divided
pub mod Told
