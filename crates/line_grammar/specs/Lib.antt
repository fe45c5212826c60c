pub mod Read
pub mod Forms
