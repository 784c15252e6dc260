pub mod Bodies
pub mod Calls
pub mod Evaluation
pub mod Machine
pub mod Reading
pub mod Scopes
