mod PickFacts
mod LinkFacts
mod SeenFacts
mod StepFacts
mod ArcFacts
mod PlaceFacts
mod NextFacts
mod GroupFacts
mod OrderFacts
mod WalkFacts
mod StepsBack
mod BelowFacts
pub mod ForestLaws
pub mod OneForest
pub mod BelowLaws
