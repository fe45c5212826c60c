-- The one heap region that holds the address is the block, if it is this heap's.
use Rattle.std.proofs.Common.{sym, ◌∙◌, inl, inr, arith}
use Rattle.heap_core.proofs.LookupLemmas.{outside_free}
use Rattle.heap_core.proofs.SiteLemmas.{none_found, found_exists, found_low, not_found, found_large, found_chunk, payer_is, payer_other}
use Rattle.heap_core.proofs.heap.Heap.site.Goals.{then-tag-gt-LARGE-via-then-tag-gt-LARGE, then-tag-gt-LARGE-via-else-tag-gt-LARGE+then-not-pays}
use Rattle.heap_core.proofs.heap.Heap.site.Goals as goal

pub returns-in_err-start-clause-none : goal.returns-in_err-start-clause-none
returns-in_err-start-clause-none c =
    rw c.from_residual.ensures (none_found _ _ _ c.requires c.in_err-start.ensures.sound _ (sym c.in_err-start.ensures.found))

pub pays-requires : goal.pays-requires
pays-requires c = found_exists _ _ _ c.requires c.in_ok-start.ensures.sound _ _ _ _ (sym c.in_ok-start.ensures.found)

pub returns-then-tag-gt-LARGE-clause-none : goal.returns-then-tag-gt-LARGE-clause-none
returns-then-tag-gt-LARGE-clause-none c =
    not_found _ _ _ c.requires c.in_ok-start.ensures.sound _ _ _ _ (sym c.in_ok-start.ensures.found) (elim c.then-tag-gt-LARGE.branch [
      | then-tag-gt-LARGE-via-then-tag-gt-LARGE w ↦ inr (let high = w.if-tag-gt-LARGE.true in omega (arith, high))
      | then-tag-gt-LARGE-via-else-tag-gt-LARGE+then-not-pays w ↦ inl (payer_other _ _ (sym w.pays.ensures ∙ w.if-not-pays.true))
    ])

pub returns-then-tag-eq-LARGE-clause-some : goal.returns-then-tag-eq-LARGE-clause-some
returns-then-tag-eq-LARGE-clause-some c =
    found_large _ _ _ c.requires c.in_ok-start.ensures.sound _ _ _ _ (sym c.in_ok-start.ensures.found) (payer_is _ _ (sym c.pays.ensures ∙ c.if-not-pays.false)) c.if-tag-eq-LARGE.true

pub overflow_sub-result : goal.overflow_sub-result
overflow_sub-result c = found_low _ _ _ c.requires c.in_ok-start.ensures.sound _ _ _ _ (sym c.in_ok-start.ensures.found)

pub returns-clause-some : goal.returns-clause-some
returns-clause-some c =
    found_chunk _ _ _ c.requires c.in_ok-start.ensures.sound _ _ _ _ (sym c.in_ok-start.ensures.found) (payer_is _ _ (sym c.pays.ensures ∙ c.if-not-pays.false))
    (let apart = c.if-tag-eq-LARGE.false in let low = c.if-tag-gt-LARGE.false in omega (arith, apart, low))

pub returns-in_err-start-clause-free : goal.returns-in_err-start-clause-free
returns-in_err-start-clause-free c =
    rw c.from_residual.ensures (outside_free _ _ _ c.requires _ (none_found _ _ _ c.requires c.in_err-start.ensures.sound _ (sym c.in_err-start.ensures.found)))

pub returns-then-tag-gt-LARGE-clause-free : goal.returns-then-tag-gt-LARGE-clause-free
returns-then-tag-gt-LARGE-clause-free c =
    outside_free _ _ _ c.requires _ (not_found _ _ _ c.requires c.in_ok-start.ensures.sound _ _ _ _ (sym c.in_ok-start.ensures.found) (elim c.then-tag-gt-LARGE.branch [
      | then-tag-gt-LARGE-via-then-tag-gt-LARGE w ↦ inr (let high = w.if-tag-gt-LARGE.true in omega (arith, high))
      | then-tag-gt-LARGE-via-else-tag-gt-LARGE+then-not-pays w ↦ inl (payer_other _ _ (sym w.pays.ensures ∙ w.if-not-pays.true))
    ]))
