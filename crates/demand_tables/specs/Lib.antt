pub mod Demand
pub mod DemandFaults
pub mod DemandNet
pub mod Lookups
