pub mod Demangled
pub mod Telling
