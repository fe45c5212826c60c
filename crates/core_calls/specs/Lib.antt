pub mod Call
pub mod FileError
pub mod ObjectError
pub mod Outcome
pub mod Quotas
pub mod ReplyText
pub mod Written
