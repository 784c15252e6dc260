pub mod Operators
pub mod Lit
pub mod OpResult
pub mod Places
