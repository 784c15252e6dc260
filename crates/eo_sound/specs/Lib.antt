pub mod Layers
pub mod Quiet
pub mod RulesUsed
pub mod Soundness
