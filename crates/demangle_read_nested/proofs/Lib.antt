pub mod RowsRead
pub mod Roots
pub mod MemberNames
pub mod TakenOver
pub mod TurnSteps
pub mod FourParts
pub mod Qualified
