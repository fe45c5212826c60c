-- So many chunks are left, the first ones.
use Rattle.heap_core.specs.End.{EndsChunks}
use Rattle.heap_core.proofs.heap.Heap.end_chunks.Given as goal

abbrev pub invariant-loop-left : goal.invariant-loop-left
invariant-loop-left l = EndsChunks l.self l.left l.initial.memory l.memory l.initial.map l.map

abbrev pub decreases-loop-left : goal.decreases-loop-left
decreases-loop-left l = l.left
