pub mod Bytes
pub mod RowsRead
pub mod Ahead
pub mod Lists
pub mod Arguments
pub mod TypeStarts
