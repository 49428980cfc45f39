pub mod Pools
pub mod Signatures
