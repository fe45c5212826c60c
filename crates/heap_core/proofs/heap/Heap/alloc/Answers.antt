-- The best hole that is taken is the one that is asked for.
use Rattle.heap_core.proofs.heap.Heap.alloc.Goals as goal

pub returns-in-Some-clause-small : goal.returns-in-Some-clause-small
returns-in-Some-clause-small c hole small best = c.in-Some.ensures.taken hole best
