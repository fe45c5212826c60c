pub mod AdditionLemmas
pub mod TableLemmas
mod SummaryLemmas
pub mod ServiceLemmas
pub mod TrailLemmas
pub mod WishLemmas
pub mod NamedLemmas
pub mod ComparisonLemmas
pub mod ReachLemmas
mod AskingLemmas
pub mod ShortestLemmas
pub mod WitnessLemmas
