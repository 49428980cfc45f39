pub mod Inputs
pub mod Times
pub mod Candidates
pub mod Shifts
pub mod Orders
