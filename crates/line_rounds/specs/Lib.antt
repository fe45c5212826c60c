pub mod Theorems
pub mod Messages
pub mod Structure
pub mod Unfolding
pub mod Views
