pub mod Draws
pub mod Joins
pub mod Makes
pub mod Networks
pub mod Words
