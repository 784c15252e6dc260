pub mod Scopes
pub mod Kept
pub mod Outcomes
pub mod Texts
pub mod Places
