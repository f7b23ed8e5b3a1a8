pub mod ScopeOf
pub mod OneEntry
pub mod ItemTree
