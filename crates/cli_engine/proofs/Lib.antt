pub mod ConfigLemmas
pub mod OptionsLemmas
pub mod TaskLemmas
