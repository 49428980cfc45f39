mod KindFacts
mod ListFacts
mod TableFacts
pub mod MadeFacts
pub mod WholeFacts
pub mod TraceFacts
mod RootFacts
mod BoundFacts
mod RelaxedFacts
pub mod RangeLaws
pub mod CountFacts
