pub mod Amount
pub mod Bytes
pub mod Page
pub mod Refusal
pub mod Service
pub mod Word
