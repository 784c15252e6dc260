pub mod Texts
pub mod ShapeLemmas
pub mod PlanLemmas
mod Vectors
pub mod Sizes
pub mod WalkSteps
pub mod Giving
pub mod AnnotationLemmas
pub mod BitLemmas
pub mod Uses
pub mod PutUses
pub mod FoldUses
pub mod SymbolUses
pub mod ReadingUses
pub mod FormUses
pub mod MeansUses
pub mod Finishing
pub mod SingleNames
