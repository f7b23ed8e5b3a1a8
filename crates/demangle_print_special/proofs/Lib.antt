pub mod Itself
pub mod Characters
