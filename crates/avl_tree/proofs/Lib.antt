pub mod TreeLemmas
pub mod OrderLemmas
pub mod ViewLemmas
pub mod TurnLemmas
pub mod NewLemmas
pub mod StepLemmas
pub mod GrowLemmas
pub mod PartLemmas
