mod Memory
pub mod OperatorValues
mod Values
pub mod Yields
mod Steps
mod Entered
mod Same
mod Pushed
mod Waiting
mod Keys
mod Grown
mod Popped
mod Frames
mod Gathering
mod Gathered
mod Giving
mod Called
mod Running
mod Beginning
pub mod Itself
mod Settled
mod Remembered
mod Calling
mod Making
