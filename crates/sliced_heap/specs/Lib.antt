pub mod Chain
pub mod Sliced
pub mod Heap
pub mod Theorems
pub mod Window
