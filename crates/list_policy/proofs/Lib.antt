pub mod BreachLemmas
pub mod PairLemmas
pub mod ReadingLemmas
pub mod VerdictLemmas
