pub mod FormLemmas
pub mod PieceLemmas
pub mod ArgsLemmas
pub mod PlainLemmas
pub mod ObjectFormLemmas
