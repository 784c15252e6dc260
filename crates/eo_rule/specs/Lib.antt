pub mod Answers
pub mod ByRules
pub mod Derivability
pub mod Instance
pub mod Reading
pub mod Uses
