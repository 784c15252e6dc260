mod Vectors
pub mod FoldingLemmas
pub mod PathLemmas
pub mod SinkLemmas
pub mod StoreLemmas
