-- A payload starts behind the header with which a block starts.
use Rattle.std.proofs.Common.{arith}
use Rattle.sliced_heap.proofs.BlockLemmas.{none_low, none_from, none_behind}
use Rattle.sliced_heap.proofs.heap.SlicedHeap.block_from.Goals as goal

pub returns-in_err-start-clause-none : goal.returns-in_err-start-clause-none
returns-in_err-start-clause-none c = let low = c.in_err-start.ensures in rw c.from_residual.ensures (none_low _ _ c.requires.linked _ (omega (arith, low)))

pub returns-in_err-first-clause-none : goal.returns-in_err-first-clause-none
returns-in_err-first-clause-none c =
    rw c.from_residual-in_err-first.ensures (none_from _ _ c.requires.linked _ _ c.in_ok-start.ensures.0 c.in_ok-start.ensures.1 c.in_err-first.ensures.none)

pub returns-then-first-start-clause-none : goal.returns-then-first-start-clause-none
returns-then-first-start-clause-none c =
    none_behind _ _ c.requires.linked _ _ c.in_ok-start.ensures.0 c.in_ok-start.ensures.1 _ _ c.in_ok-first.ensures.some c.if-first-start.true
