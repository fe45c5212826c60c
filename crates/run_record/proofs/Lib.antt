mod PieceLemmas
mod MarkLemmas
mod RecordedLemmas
mod BareLemmas
mod BareCallLemmas
mod ErrorLemmas
