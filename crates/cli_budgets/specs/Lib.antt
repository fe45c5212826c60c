pub mod ReportRecords
pub mod BudgetPrinting
pub mod BudgetStatus
