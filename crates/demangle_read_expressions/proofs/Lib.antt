pub mod MissingWords
pub mod RowsRead
pub mod Takes
pub mod FourParts
pub mod MemberNames
pub mod ExpressionStarts
pub mod DeleteLaws
