pub mod BytesLemmas
pub mod ElsewhereLemmas
pub mod PageLemmas
pub mod WordLemmas
pub mod NumberLemmas
