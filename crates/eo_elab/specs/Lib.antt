pub mod Meaning
pub mod BitStrings
pub mod Forms
pub mod Worlds
pub mod Gives
pub mod Fitting
pub mod Waiting
