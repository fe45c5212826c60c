pub mod Counts
pub mod Diagnostics
