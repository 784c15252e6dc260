mod Plain
mod Vectors
pub mod SettleLemmas
pub mod Longer
pub mod Walk
pub mod Heights
pub mod SettleSteps
mod SettleParts
pub mod Assigned
pub mod Fitting
pub mod Greatest
pub mod Keeping
mod TypingSteps
mod LiteralSteps
mod TypeWalk
