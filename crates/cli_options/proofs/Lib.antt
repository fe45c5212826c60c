pub mod InputLemmas
pub mod LineLemmas
