pub mod MemberLemmas
pub mod OrderLemmas
pub mod RecordLemmas
pub mod TokenLemmas
