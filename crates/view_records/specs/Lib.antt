pub mod Cells
pub mod JsonTexts
pub mod Lists
pub mod ObjectTexts
pub mod Records
pub mod Stored
