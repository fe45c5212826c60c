pub mod RecordedCalls
pub mod Recorded
pub mod Bare
pub mod LineErrors
pub mod LineRecords
pub mod Marked
pub mod Views
pub mod Pieces
