pub mod Kinds
pub mod Counts
pub mod Objects
pub mod Calls
pub mod Session
pub mod SeparateBuffer
