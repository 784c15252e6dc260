pub mod Facts
pub mod Acts
pub mod Grafts
pub mod Steps
pub mod Shutting
pub mod Going
pub mod Stepping
pub mod Running
pub mod Picking
pub mod Ending
pub mod Again
pub mod Original
pub mod Trimming
pub mod Trimmed
pub mod Sound
pub mod Complete
pub mod AreRuns
pub mod Law
mod Computed
mod Vectors
pub mod Keeps
pub mod Marks
pub mod EntryLaws
pub mod Records
pub mod Numbered
pub mod Shortening
