pub mod OwnFacts
pub mod HoldFacts
pub mod ShownFacts
pub mod PartFacts
mod EnoughFacts
mod DroppedFacts
mod SplitsFacts
mod HalvingFacts
mod LeavesFacts
mod OutFacts
mod ChoiceFacts
mod ProductFacts
