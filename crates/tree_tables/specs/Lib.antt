pub mod Fills
pub mod Leasts
pub mod Sums
pub mod Steps
