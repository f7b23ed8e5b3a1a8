pub mod Built
pub mod OneFault
pub mod Rows
pub mod Verdicts
