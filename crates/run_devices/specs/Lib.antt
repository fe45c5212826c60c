pub mod Device
pub mod RunOutput
pub mod Lines
