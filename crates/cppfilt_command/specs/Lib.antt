pub mod Asked
pub mod Command
pub mod Kinds
pub mod Mistakes
pub mod Refusals
