mod CheckedFacts
mod LimitFacts
pub mod RefusalLaws
mod StageFacts
mod TogetherFacts
