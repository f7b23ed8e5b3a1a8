pub mod BuilderLaws
pub mod OnceLaws
