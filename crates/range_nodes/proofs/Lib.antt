mod BackFacts
mod FrontFacts
mod FloorFacts
mod SizeFacts
mod RiseFacts
pub mod NodeFacts
mod MadeFacts
pub mod StayFacts
pub mod TableFacts
pub mod RuleFacts
pub mod PlanFacts
