mod ServiceLemmas
mod CoverLemmas
mod PlaceLemmas
