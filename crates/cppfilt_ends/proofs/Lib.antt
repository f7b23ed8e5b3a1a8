pub mod MoveLaws
pub mod ReadLaws
