pub mod Junit
pub mod Tap
pub mod Trials
pub mod Xml
