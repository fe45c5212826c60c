mod BinaryLemmas
mod AccessLemmas
mod BreachLemmas
mod NewBreachLemmas
mod PairLemmas
mod ReachLemmas
mod ReplyLemmas
mod RouteLemmas
