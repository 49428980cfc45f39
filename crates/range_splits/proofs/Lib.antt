pub mod SplitFacts
pub mod LeafFacts
pub mod NextFacts
pub mod OpenFacts
pub mod BreakFacts
pub mod CutFacts
pub mod EndFacts
mod BrokenFacts
