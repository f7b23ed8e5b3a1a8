pub mod Itself
pub mod Scopes
pub mod Words
pub mod SourceOr
