pub mod Giving
pub mod BoundLemmas
pub mod CheckedLemmas
pub mod ConstantLemmas
pub mod DeclaringLemmas
pub mod ProgramLemmas
mod ProgramVectors
pub mod BoundUses
pub mod RuleLemmas
pub mod ReferenceLemmas
pub mod SingleNames
pub mod Referenced
