pub mod Causes
pub mod Held
pub mod Kept
pub mod Memory
pub mod Real
pub mod Written
