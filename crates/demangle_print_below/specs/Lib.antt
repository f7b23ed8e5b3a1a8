pub mod PageOf
pub mod PlaceOf
pub mod References
