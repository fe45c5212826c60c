-- What is still to be given back makes, with what is, all.
use Rattle.std.specs.Prelude.{length}
use Rattle.heap_core.specs.End.{EndsLarge}
use Rattle.heap_core.proofs.heap.Heap.end_large.Given as goal

abbrev pub invariant-loop-self : goal.invariant-loop-self
invariant-loop-self l = EndsLarge l.initial.self l.self l.initial.memory l.memory l.initial.map l.map

abbrev pub decreases-loop-self : goal.decreases-loop-self
decreases-loop-self l = length l.self.large.items
