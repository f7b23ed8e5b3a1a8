pub mod RowsRead
pub mod RowLists
pub mod Waits
pub mod Starts
pub mod Ahead
