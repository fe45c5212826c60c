pub mod SessionBuffer
pub mod Session
pub mod Frame
pub mod Theorems
pub mod Memory
