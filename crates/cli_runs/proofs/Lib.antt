pub mod CommandLemmas
pub mod StatusLemmas
