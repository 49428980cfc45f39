mod ArcEndFacts
mod CustomerFacts
mod CycleFacts
mod EndFacts
mod EntryFacts
mod FloorFacts
mod FrontFacts
mod MarkFacts
mod PartFacts
mod SearchedFacts
mod TakenFacts
mod WaitFacts
pub mod ArcFacts
pub mod CostFacts
pub mod FaultFacts
pub mod NetworkFacts
pub mod OrderLaws
pub mod PlanFacts
pub mod RangeFacts
pub mod SearchFacts
pub mod TopFacts
pub mod ValidFacts
