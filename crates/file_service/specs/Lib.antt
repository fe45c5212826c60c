pub mod Files
pub mod Session
pub mod SeparateBuffer
