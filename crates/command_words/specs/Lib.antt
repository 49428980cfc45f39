pub mod Commands
pub mod Names
pub mod Words
pub mod WordRules
pub mod Asked
pub mod Requests
