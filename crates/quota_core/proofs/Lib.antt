pub mod BooksLemmas
pub mod BooksLaws
pub mod SlabMap
