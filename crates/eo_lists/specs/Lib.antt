pub mod Joining
pub mod Lists
pub mod Outcomes
pub mod Parts
