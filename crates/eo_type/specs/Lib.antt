pub mod Types
pub mod Outcomes
pub mod Known
pub mod Greatest
pub mod Parts
pub mod Steps
pub mod Undoing
pub mod TypeSteps
