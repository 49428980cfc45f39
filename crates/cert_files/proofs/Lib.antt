pub mod PutFacts
pub mod WrittenFacts
pub mod FullFacts
pub mod VerdictFacts
