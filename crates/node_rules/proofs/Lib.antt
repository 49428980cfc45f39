pub mod FitFacts
mod MarkFacts
pub mod WalkFacts
