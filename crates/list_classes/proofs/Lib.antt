pub mod TreeLemmas
pub mod WitnessLemmas
pub mod MakingLemmas
pub mod RowLemmas
pub mod ClassLemmas
pub mod AskedTextLemmas
pub mod PartLemmas
pub mod UnionLemmas
