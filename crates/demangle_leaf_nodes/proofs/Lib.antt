pub mod Same
pub mod CopiedLists
