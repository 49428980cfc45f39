mod ArcFacts
mod BeforeFacts
mod DemandFacts
pub mod FewFacts
mod MoreFacts
mod NumberFacts
mod OrderFacts
pub mod PassFacts
mod RowFacts
mod RuleFacts
mod StageFacts
mod StageFileFacts
mod TakenFacts
mod TextFacts
pub mod ZeroFacts
