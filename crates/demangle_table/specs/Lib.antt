pub mod TableOf
