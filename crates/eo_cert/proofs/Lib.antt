pub mod Runs
pub mod Mirrors
pub mod Chains
pub mod Assigned
pub mod BlockSound
pub mod Right
pub mod InstanceSound
pub mod ContextSound
pub mod StepSound
pub mod Growing
pub mod Checking
pub mod Certified
pub mod Growth
pub mod Found
pub mod FoundLines
pub mod FewCalls
pub mod Alike
pub mod OneEach
pub mod Known
pub mod Above
pub mod Pairs
pub mod InstanceFits
pub mod Accepted
pub mod ClosedBodies
pub mod StepAccepted
pub mod Apart
mod Computed
mod Vectors
mod LineVectors
mod SuiteVectors
