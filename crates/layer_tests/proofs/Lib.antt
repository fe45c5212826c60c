mod HeapLemmas
mod CellLemmas
mod MemoryLemmas
