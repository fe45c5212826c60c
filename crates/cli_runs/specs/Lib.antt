pub mod CommandStatus
pub mod RunEnd
pub mod RunStatus
