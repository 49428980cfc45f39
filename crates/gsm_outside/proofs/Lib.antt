pub mod CauseFacts
pub mod KeptFacts
