pub mod Guarded
pub mod Theorems
pub mod Debts
pub mod Rows
