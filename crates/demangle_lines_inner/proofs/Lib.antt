pub mod Numbers
pub mod Rvalues
pub mod Types
pub mod Wanting
