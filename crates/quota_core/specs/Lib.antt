pub mod Books
pub mod SlabBooks
pub mod SlabMap
