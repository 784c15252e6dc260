pub mod Faults
pub mod Outcomes
pub mod Ready
pub mod Settling
