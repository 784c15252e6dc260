pub mod Benches
pub mod Closed
pub mod Computed
pub mod Ending
pub mod Ends
pub mod Exits
pub mod Files
pub mod Jobs
pub mod Leaving
pub mod Numbers
pub mod Opened
pub mod Pieces
pub mod Preludes
pub mod Refusals
pub mod Running
pub mod Runs
pub mod Soundness
pub mod Taking
pub mod Watched
mod FileVectors
mod ScopeVectors
pub mod Vectors
mod BenchVectors
mod PrintLemmas
pub mod SingleNames
mod OverloadVectors
