-- What is still to be given back makes, with what is, all. Each round gives back one of the account's dataspaces.
use Rattle.std.specs.FinMap.{len}
use Rattle.dataspace_core.specs.Store.{part}
use Rattle.sliced_heap.specs.Heap.{payer_of}
use Rattle.sliced_heap.proofs.EndLemmas.{Ends}
use Rattle.sliced_heap.proofs.heap.SlicedHeap.end.Given as goal

abbrev pub invariant-loop-ds : goal.invariant-loop-ds
invariant-loop-ds l = Ends l.initial.self l.self l.initial.memory l.memory l.initial.map l.map

abbrev pub decreases-loop-ds : goal.decreases-loop-ds
decreases-loop-ds l = len (part (payer_of l.self) l.memory).spaces
