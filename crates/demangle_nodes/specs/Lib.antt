pub mod TreeNodes
pub mod Laws
