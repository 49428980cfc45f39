mod JoinFacts
mod MadeFacts
mod NetworkFacts
mod TreeFacts
pub mod TrialLaws
mod WordFacts
