pub mod Parts
pub mod Told
pub mod Runs
pub mod Halts
pub mod Sizes
pub mod Progress
