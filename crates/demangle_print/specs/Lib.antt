pub mod MayPrint
pub mod Demangled
