pub mod PaddedLemmas
pub mod SlotsLemmas
pub mod PlacesLemmas
