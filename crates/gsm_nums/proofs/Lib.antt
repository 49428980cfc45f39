mod NumberFacts
pub mod RootFacts
pub mod SpaceFacts
pub mod WholeFacts
