pub mod Root
pub mod Whole
