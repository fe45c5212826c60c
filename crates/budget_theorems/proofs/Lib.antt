pub mod EachLemmas
pub mod CellLemmas
pub mod WantLemmas
mod TestLemmas
mod StepLemmas
mod DecideLemmas
mod RunLemmas
mod ServeLemmas
mod HoldLemmas
mod SessionServeLemmas
pub mod SessionRunLemmas
mod SelectorLemmas
mod CarryLemmas
mod ClientCallLemmas
mod ClientLemmas
pub mod StretchLemmas
pub mod ToldLemmas
