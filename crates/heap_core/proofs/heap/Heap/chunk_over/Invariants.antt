-- So many chunks are left, the first ones.
use Rattle.std.specs.Prelude.{◌≤◌, length}
use Rattle.heap_core.proofs.heap.Heap.chunk_over.Given as goal

abbrev pub invariant-loop-left : goal.invariant-loop-left
invariant-loop-left l = l.left ≤ length l.self.chunks.items

abbrev pub decreases-loop-left : goal.decreases-loop-left
decreases-loop-left l = l.left
