pub mod Space
pub mod Slots
pub mod PlaceBitmap
