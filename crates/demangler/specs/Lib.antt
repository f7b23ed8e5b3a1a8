pub mod Answer
pub mod Contents
pub mod Name
pub mod Plain
pub mod OneName
pub mod NameTold
pub mod Filled
