pub mod Behind
pub mod Counts
pub mod ArrayComponents
pub mod Items
pub mod Lists
pub mod Turns
pub mod Voids
pub mod Wanting
