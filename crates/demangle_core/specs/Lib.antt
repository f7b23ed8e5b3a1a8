pub mod Core
pub mod Same
pub mod Fields
pub mod Table
pub mod Sound
pub mod Lookups
pub mod Laws
