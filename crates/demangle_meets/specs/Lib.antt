pub mod Seen
pub mod Page
pub mod Place
pub mod Goes
pub mod Calls
pub mod Meets
pub mod Laws
