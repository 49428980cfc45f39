pub mod Arcs
pub mod Halves
pub mod Leaves
pub mod Links
pub mod Relaxed
