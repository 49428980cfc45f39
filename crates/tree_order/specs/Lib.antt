pub mod Links
pub mod Steps
pub mod Walks
pub mod Picks
pub mod Forest
