pub mod TreeEntries
