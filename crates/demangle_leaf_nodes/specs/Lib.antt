pub mod TreeLeaves
