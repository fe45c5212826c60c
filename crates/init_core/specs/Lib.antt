pub mod Boot
pub mod Rows
