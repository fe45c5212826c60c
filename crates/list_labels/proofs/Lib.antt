pub mod TextLemmas
pub mod HopLemmas
pub mod AskedLemmas
pub mod AlikeLemmas
pub mod FollowLemmas
pub mod RuleLemmas
mod KnownLemmas
