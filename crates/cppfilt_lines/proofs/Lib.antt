pub mod DueLaws
pub mod LineLaws
pub mod NamedLaws
