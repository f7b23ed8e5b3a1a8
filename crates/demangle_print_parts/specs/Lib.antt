pub mod Arguments
pub mod Builtins
pub mod Decltypes
pub mod Pieces
