pub mod Closed
pub mod Coding
pub mod Declarations
pub mod Faults
pub mod Laws
pub mod Plain
pub mod Same
