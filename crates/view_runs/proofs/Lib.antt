pub mod AloneLemmas
pub mod AnswerLemmas
pub mod PrintedLemmas
pub mod RowLemmas
pub mod ViewLemmas
