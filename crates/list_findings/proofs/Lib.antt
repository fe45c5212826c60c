pub mod HidingLemmas
pub mod IdleLemmas
pub mod SeenLemmas
pub mod ServiceNames
pub mod TextLemmas
pub mod UnreadLemmas
pub mod ViewLemmas
