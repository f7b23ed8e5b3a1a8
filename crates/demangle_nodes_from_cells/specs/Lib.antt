pub mod MayMake
pub mod Memory
pub mod Node
