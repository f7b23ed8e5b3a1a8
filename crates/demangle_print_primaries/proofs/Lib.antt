pub mod Chosen
pub mod Itself
pub mod Lists
pub mod Signs
pub mod Words
