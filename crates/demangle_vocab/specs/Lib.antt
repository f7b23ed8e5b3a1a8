pub mod WordTable
pub mod Operators
pub mod Builtins
pub mod Components
pub mod Qualifiers
pub mod Order
