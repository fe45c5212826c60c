mod AccountLemmas
mod ShareLemmas
mod ClosedLemmas
mod StepLemmas
mod WorldLemmas
mod DebtLemmas
