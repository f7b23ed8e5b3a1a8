pub mod PlaceOf
pub mod MayPrint
