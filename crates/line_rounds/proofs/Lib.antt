pub mod LawLemmas
pub mod RoundLemmas
