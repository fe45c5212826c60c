-- An address in no block is in no payload.
use Rattle.heap_core.proofs.LookupLemmas.{outside_none}
use Rattle.heap_core.proofs.heap.Heap.block_of.Goals as goal

pub returns-in_err-at-clause-none : goal.returns-in_err-at-clause-none
returns-in_err-at-clause-none c = rw c.from_residual.ensures (outside_none _ _ _ c.requires.sound _ _ c.in_err-at.ensures.none c.requires.some)
