pub mod LeftLemmas
pub mod NestLemmas
pub mod TextLemmas
mod WordLemmas
