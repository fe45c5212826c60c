pub mod CommandStatus
