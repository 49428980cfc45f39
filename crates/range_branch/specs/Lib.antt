pub mod Sizes
pub mod Solutions
pub mod Progress
pub mod First
pub mod Steps
