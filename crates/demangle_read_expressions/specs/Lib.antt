pub mod Heads
pub mod Folds
pub mod Operators
pub mod Allocations
pub mod MemberNames
pub mod ExpressionStarts
