pub mod FoldLemmas
pub mod FoldTall
pub mod FoldSteps
pub mod Giving
pub mod JoinLemmas
pub mod Bound
pub mod ScopeLemmas
mod Indexed
pub mod BindingLemmas
pub mod UsageLemmas
pub mod BinderLemmas
