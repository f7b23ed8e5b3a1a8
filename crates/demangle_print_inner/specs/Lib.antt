pub mod Behind
pub mod Kinds
