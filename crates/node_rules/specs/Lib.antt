pub mod Faults
pub mod Floored
pub mod Marks
pub mod Walks
