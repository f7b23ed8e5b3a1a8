pub mod Behind
pub mod Kinds
pub mod Tops
pub mod Choices
