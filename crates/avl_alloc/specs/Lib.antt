pub mod Words
pub mod FreeBlocks
pub mod Layout
pub mod Context
pub mod Walk
pub mod Fit
pub mod Found
