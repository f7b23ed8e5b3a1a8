pub mod Heard
pub mod Told
pub mod Goes
pub mod Steps
pub mod Acts
pub mod Around
pub mod Events
pub mod Parts
pub mod Sifted
pub mod Lines
pub mod Laws
pub mod Room
mod Samples
