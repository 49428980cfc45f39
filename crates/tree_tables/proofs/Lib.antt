mod ListFacts
mod LeastFacts
mod TightFacts
mod TimeFacts
mod PlaceFacts
mod DepthFacts
mod ChildFacts
mod TraceSteps
pub mod FillLaws
