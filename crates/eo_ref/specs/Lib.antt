pub mod Reference
pub mod Ids
pub mod Answers
