pub mod StartLemmas
pub mod InitLemmas
pub mod BootLemmas
pub mod RowLemmas
pub mod RuleLemmas
pub mod BootedLemmas
