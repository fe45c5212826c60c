-- A new dataspace is shown nowhere, so the heap stays as it is, and the dataspace can be entered.
use Rattle.std.proofs.Common.{ap, ◌∙◌, ◌/◌, length, arith}
use Rattle.own_model.proofs.ByteLemmas.{length-zeros}
use Rattle.dataspace_core.proofs.PartLaws.{paid_in_part}
use Rattle.sliced_heap.proofs.AllocLemmas.{new_there, alloc_stays, can_enter, takes}
use Rattle.sliced_heap.proofs.heap.SlicedHeap.alloc.Goals as goal

pub size-pages-requires : goal.size-pages-requires
size-pages-requires c =
    let size = (rw c.in_ok-size.ensures.ok_part at c.with_header.ensures.some).0 in
    (paid_in_part _ _ _ _ (new_there _ _ _ _ _ _ c.requires c.in_ok-ds.ensures.fresh c.in_ok-ds.ensures.part (omega (arith, size)))).exists

pub enter-requires-clause-sound : goal.enter-requires-clause-sound
enter-requires-clause-sound c =
    let size = (rw c.in_ok-size.ensures.ok_part at c.with_header.ensures.some).0 in
    (alloc_stays _ _ _ _ _ _ c.requires c.in_ok-ds.ensures.fresh c.in_ok-ds.ensures.part (omega (arith, size))).sound

pub enter-requires-clause-can : goal.enter-requires-clause-can
enter-requires-clause-can c =
    let size = (rw c.in_ok-size.ensures.ok_part at c.with_header.ensures.some).0 in
    let there = new_there _ _ _ _ _ _ c.requires c.in_ok-ds.ensures.fresh c.in_ok-ds.ensures.part (omega (arith, size)) in
    let bytes = c.size-pages.ensures ∙ ap length (paid_in_part _ _ _ _ there).bytes_are ∙ length-zeros _ in
    can_enter _ _ _ _ _ _ c.requires c.in_ok-ds.ensures.fresh c.in_ok-ds.ensures.part (omega (arith, size)) _ (ap (λ n. n / 4096) bytes) c.in_ok-ds.ensures.ok c.in_ok-ds.ensures.within

pub returns-clause-taken : goal.returns-clause-taken
returns-clause-taken c =
    let size = (rw c.in_ok-size.ensures.ok_part at c.with_header.ensures.some).0 in
    let there = new_there _ _ _ _ _ _ c.requires c.in_ok-ds.ensures.fresh c.in_ok-ds.ensures.part (omega (arith, size)) in
    let bytes = c.size-pages.ensures ∙ ap length (paid_in_part _ _ _ _ there).bytes_are ∙ length-zeros _ in
    takes _ _ _ _ _ _ c.requires c.in_ok-ds.ensures.fresh c.in_ok-ds.ensures.part (omega (arith, size)) _ _ _ _ _ size (ap (λ n. n / 4096) bytes) c.enter.ensures.enters
