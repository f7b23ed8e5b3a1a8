pub mod KeptNames
pub mod Symbols
