pub mod Causes
pub mod Faulty
pub mod Moves
