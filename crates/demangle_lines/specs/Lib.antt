pub mod Shapes
pub mod ScopeOf
pub mod Pieces
pub mod Does
pub mod Entries
pub mod Known
