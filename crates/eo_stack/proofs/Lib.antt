pub mod OnValues
pub mod Unchanged
mod Lights
