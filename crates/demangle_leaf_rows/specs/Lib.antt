pub mod Answers
pub mod Context
pub mod Deepened
pub mod Deepest
pub mod DottedNumbers
pub mod Hidden
pub mod NameClass
