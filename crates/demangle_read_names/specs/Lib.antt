pub mod NameStarts
pub mod Blocks
pub mod Temporaries
