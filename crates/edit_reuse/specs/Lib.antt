pub mod Refusals
pub mod Sessions
pub mod Edits
pub mod Answers
