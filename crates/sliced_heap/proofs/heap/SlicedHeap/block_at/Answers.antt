-- The one heap region that holds the address is the block, if it is this heap's.
use Rattle.std.proofs.Common.{sym, ◌∙◌}
use Rattle.sliced_heap.proofs.LookLemmas.{none_at, found_exists, found_held, not_held}
use Rattle.sliced_heap.proofs.heap.SlicedHeap.block_at.Goals as goal

pub returns-in_err-start-clause-none : goal.returns-in_err-start-clause-none
returns-in_err-start-clause-none c =
    rw c.from_residual.ensures (none_at _ _ _ c.requires.maps c.in_err-start.ensures.sound _ (sym c.in_err-start.ensures.found))

pub owns-requires : goal.owns-requires
owns-requires c = found_exists c.args.self.now.account.0 _ _ c.requires.maps c.in_ok-start.ensures.sound _ _ _ _ (sym c.in_ok-start.ensures.found)

pub returns-then-not-owns-clause-none : goal.returns-then-not-owns-clause-none
returns-then-not-owns-clause-none c =
    not_held _ _ _ c.requires.maps c.in_ok-start.ensures.sound _ _ _ _ (sym c.in_ok-start.ensures.found) (sym c.owns.ensures ∙ c.if-not-owns.true)

pub returns-clause-some : goal.returns-clause-some
returns-clause-some c =
    found_held _ _ _ c.requires.maps c.in_ok-start.ensures.sound _ _ _ _ (sym c.in_ok-start.ensures.found) (sym c.owns.ensures ∙ c.if-not-owns.false)
