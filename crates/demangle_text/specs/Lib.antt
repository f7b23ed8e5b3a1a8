pub mod Kind
pub mod Spot
pub mod Bytes
pub mod Characters
pub mod Found
pub mod Word
pub mod Number
pub mod Texts
