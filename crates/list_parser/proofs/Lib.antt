pub mod MemberLemmas
pub mod EntryLemmas
pub mod JsonLemmas
pub mod ListLemmas
pub mod FinderLemmas
pub mod DepthLemmas
pub mod ReadLemmas
pub mod ServiceLemmas
pub mod KindLemmas
pub mod HeadLemmas
pub mod NestLemmas
pub mod ListedLemmas
pub mod QuotaLemmas
pub mod GivenLemmas
mod MachineLemmas
pub mod BudgetLemmas
