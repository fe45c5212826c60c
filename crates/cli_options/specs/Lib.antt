pub mod Inputs
pub mod Line
