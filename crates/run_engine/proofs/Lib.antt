pub mod Ending
pub mod EngineLemmas
