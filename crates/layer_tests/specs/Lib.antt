pub mod Heaps
pub mod Cells
