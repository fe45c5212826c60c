pub mod Store
pub mod Layout
pub mod Paid
pub mod Share
pub mod Room
pub mod Spaces
