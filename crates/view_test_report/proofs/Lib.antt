pub mod TextLemmas
pub mod TapLemmas
pub mod XmlLemmas
