pub mod RowsRead
pub mod ResourceParts
