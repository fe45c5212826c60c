pub mod Kinds
pub mod Left
pub mod PartTexts
pub mod QuotedTexts
pub mod Steps
pub mod Texts
