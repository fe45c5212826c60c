pub mod KnownLemmas
pub mod SumLemmas
pub mod FillLemmas
pub mod LawLemmas
pub mod TrimLemmas
pub mod PartLemmas
pub mod ListLemmas
