pub mod Declarations
pub mod Worlds
pub mod Declaring
pub mod Gives
pub mod RuleParts
