mod FileLemmas
pub mod MadeLemmas
pub mod StatusLemmas
pub mod UnfoldingLemmas
pub mod UnreadLemmas
pub mod VerdictLemmas
