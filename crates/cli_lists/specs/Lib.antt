pub mod CheckDocuments
pub mod ComparedRuns
pub mod Comparison
pub mod ListStatus
pub mod ReachDocuments
