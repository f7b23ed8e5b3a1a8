pub mod Referred
pub mod ReferenceItems
pub mod Rvalues
pub mod Tops
