pub mod Pages
pub mod Layout
pub mod Ownership
pub mod Lends
