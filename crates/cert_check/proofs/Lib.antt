mod PlaceFacts
mod NodeFacts
mod ArrivalFacts
mod LeavesFacts
mod RangesFacts
mod KeepFacts
mod TakeFacts
mod WholeFacts
mod EndedFacts
mod AnswerFacts
mod WalkFacts
mod WalkedFacts
pub mod RefusalFacts
pub mod WrittenFacts
