mod ArcFacts
mod AskedFacts
mod BoundedFacts
mod CaseFacts
mod Downstream
pub mod ExcessLaws
mod MadeFacts
pub mod NetFacts
mod OrderFacts
mod RuleFacts
mod ShortestFacts
mod SolvedFacts
mod TableNames
mod WithinFacts
