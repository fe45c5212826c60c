mod ChangeLemmas
pub mod ComparisonLemmas
mod DocumentLemmas
mod PathLemmas
mod ReviewLemmas
