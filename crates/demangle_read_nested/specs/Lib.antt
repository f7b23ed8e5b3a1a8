pub mod Held
pub mod Shapes
pub mod Turns
pub mod Taken
pub mod NestedNames
pub mod Members
