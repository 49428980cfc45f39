mod NameFacts
pub mod WordFacts
