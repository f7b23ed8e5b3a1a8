pub mod View
pub mod TableOf
