pub mod Building
pub mod ById
pub mod Firsts
mod Put
pub mod Spell
pub mod Values
mod Vectors
