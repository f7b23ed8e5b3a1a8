pub mod DottedNumbers
pub mod Indexes
pub mod Levels
pub mod ResourceNames
pub mod Tags
pub mod Turns
