pub mod Due
pub mod Laws
pub mod Lines
pub mod Named
pub mod Sample
pub mod Shown
pub mod Work
