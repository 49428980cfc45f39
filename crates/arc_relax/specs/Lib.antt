pub mod Kinds
pub mod StageTables
pub mod Nodes
pub mod Laws
pub mod Relaxations
pub mod Counts
