pub mod IndexLaws
pub mod PartsLaws
pub mod SignatureLaws
