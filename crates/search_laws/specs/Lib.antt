pub mod Own
pub mod Enough
pub mod Laws
