pub mod Names
pub mod Rules
pub mod Views
pub mod Covered
pub mod Records
pub mod Reported
