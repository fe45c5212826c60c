pub mod Trees
pub mod Classes
pub mod Parts
pub mod Described
pub mod Making
pub mod AskedTexts
pub mod Rows
pub mod Witnesses
