pub mod Alone
pub mod Answers
pub mod CsvRows
pub mod JsonRows
pub mod Rows
pub mod Tracing
pub mod Transcripts
