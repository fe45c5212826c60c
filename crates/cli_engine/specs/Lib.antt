pub mod Config
pub mod Options
pub mod Program
pub mod Ending
pub mod Texts
