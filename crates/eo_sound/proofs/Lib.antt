pub mod Closed
pub mod Deriving
pub mod Quiet
pub mod RulesNamed
pub mod SoundDeclarations
pub mod SoundSteps
pub mod Soundness
pub mod SingleNames
