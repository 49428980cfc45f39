pub mod Sizes
pub mod Roots
pub mod Nodes
pub mod Laws
