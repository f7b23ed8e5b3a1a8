pub mod RanLaws
pub mod RunLaws
