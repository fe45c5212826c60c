-- A new block of the heap is zeros where no block was, and what a machine's RAM covers is given.
use Rattle.std.proofs.lemmas.Bool.Decides.{nat_tests}
use Rattle.std.proofs.Common.{◌≡◌, ℕ, ◌+◌, ◌-◌, ◌*◌, ◌/◌, ◌≤◌, Bool, true, false, cond, List, length, nat_lt, Some, refl, sym, ap, subst, ◌∙◌, IsSome, arith}
use Rattle.std.proofs.lemmas.Option.{none-some}
use Rattle.std.specs.Prelude.{Option, None}
use Rattle.std.specs.Option.{option_map, option_or}
use Rattle.std.specs.FinMap.{get}
use Rattle.trade_base.specs.Page.{page_of, is_valid_size}
use Rattle.trade_base.specs.declared.refusal.Refusal.{Refusal}
use Rattle.trade_base.specs.declared.refusal.Refusal.TheVariants.{InvalidSize}
use Rattle.own_model.proofs.HeapBestFitLemmas.{IsHoleOf, hole_unused}
use Rattle.own_model.proofs.HeapBlockLemmas.{hole_within}
use Rattle.own_model.proofs.HeapRangeLemmas.{gap_place}
use Rattle.own_model.proofs.HeapSoundLemmas.{HasGrown, has_grown, best_of_sound}
use Rattle.own_model.proofs.HeapStepLemmas.{chunk_is, chunk_with-is, offset_of-is, no_large, used_of, payload_within_range, payload_some, heap_range, heap_lies, not_both}
use Rattle.own_model.proofs.SlicedNewLemmas.{machine_gap}
use Rattle.own_model.proofs.NatMapLemmas.{get-insert_same, some_of}
use Rattle.own_model.proofs.StepLemmas.{covers, valid_some, accepted_size, accepted_growth, size_tested}
use Rattle.own_model.specs.Account.{shortage, alloc_refusal}
use Rattle.own_model.specs.BestFit.{Spot, block_size, chunk_of, used_at}
use Rattle.own_model.specs.Call.Call.{New}
use Rattle.own_model.specs.Growth.{Growth, is_large, hole_for, growth_of, growth_refusal, small_refusal, heap_refusal, new_hole}
use Rattle.own_model.specs.HeapStep.{size_taken}
use Rattle.own_model.specs.HeapWindow.{heap_high, largest_machine}
use Rattle.own_model.specs.OwnHeap.{payload_start, start_of, chunk_with}
use Rattle.own_model.specs.OwnState.{OwnState, zeros}
use Rattle.own_model.specs.OwnStep.{Outcome, unless, block_taken, chunk_added, grown_at, grown_in, large_at, large_in, small_new, own_heap_gap, script_step}
use Rattle.own_model.specs.Reply.Reply.{Attached}
use Rattle.own_model.specs.Sound.{IsSound}
use Rattle.own_model.specs.Use.{UsesWhatItHolds}

-- what has no length isn't there
no_length : (o : Option (List ℕ)) → option_map length o ≡ None → o ≡ None
no_length None is = refl
no_length (Some x) is = absurd (none-some (length x) (sym is))

-- a block that takes a hole has room for the payload
room_for : (n size : ℕ) → block_size n ≤ size → n ≤ size_taken (block_size n) size - 16
room_for n size fits = elim (nat_lt (size - block_size n) 48) as (λ b. n ≤ cond b size (block_size n) - 16) [ true ↦ omega arith | false ↦ omega arith ]

-- a block at an address is new, has these bytes and is all zero
abbrev IsNew : OwnState → ℕ → ℕ → Outcome → Type 0
IsNew s n block o = (get s.heap.payloads block ≡ None) × ((size : ℕ) × (n ≤ size) × (get o.next.heap.payloads block ≡ Some (zeros size)))

module _ (s : OwnState) (h : IsSound s) where
  -- no payload starts where that of a hole would
  hole_free : (hole : Spot) → IsHoleOf s.heap.shape.chunks hole → get s.heap.payloads (payload_start s.heap hole) ≡ None
  hole_free hole is =
      let high = heap_high largest_machine in
      let heap = s.heap in
      let lies = heap_lies s h in
      let i = hole.chunk in
      let sizes = (chunk_is high heap h.heap_parts lies i is.within).sizes in
      let inside = hole_within hole.offset hole.size (chunk_of heap.shape.chunks i) sizes is.there in
      let least = inside.0.least in
      let back : payload_start heap hole - 16 ≡ start_of heap i + hole.offset = omega arith in
      let at : start_of heap i + (hole.offset + 16) ≡ payload_start heap hole = omega arith in
      let large : get heap.large (payload_start heap hole) ≡ None
      = ap (get heap.large) (sym at) ∙ no_large high heap h.heap_parts lies i (hole.offset + 16) is.within (omega arith) (omega (arith, inside.1)) in
      let here = chunk_with-is high heap h.heap_parts lies i hole.offset is.within (omega (arith, inside.1)) in
      let into = offset_of-is high heap h.heap_parts lies i hole.offset is.within (omega (arith, inside.1)) in
      let unused : used_of high heap h.heap_parts lies (payload_start heap hole - 16) ≡ None
      = ap (used_of high heap h.heap_parts lies) back ∙ ap (λ x. used_at x (chunk_of heap.shape.chunks (chunk_with heap (start_of heap i + hole.offset)))) into
      ∙ ap (λ k. used_at hole.offset (chunk_of heap.shape.chunks k)) here ∙ hole_unused hole.offset hole.size (chunk_of heap.shape.chunks i) sizes is.there in
      no_length (get heap.payloads (payload_start heap hole))
      (h.heap_parts.filled (payload_start heap hole) ∙ ap (λ l. option_or l (option_map (λ n. n - 16) (used_of high heap h.heap_parts lies (payload_start heap hole - 16)))) large ∙ ap (option_map (λ n. n - 16)) unused)

  -- nor at the first gap of the window
  gap_without_payload : (bytes start : ℕ) → own_heap_gap bytes s ≡ Some start → 1 ≤ bytes / 4096 → get s.heap.payloads start ≡ None
  gap_without_payload bytes start gap some = elim (get s.heap.payloads start) as (λ o. get s.heap.payloads start ≡ o → o ≡ None) [
    | None ↦ λ _. refl
    | Some payload ↦ λ there.
        let at = payload_within_range (heap_high largest_machine) s.heap h.heap_parts (heap_lies s h) start payload there in
        let long = payload_some (heap_high largest_machine) s.heap h.heap_parts (heap_lies s h) start payload there in
        let apart = (gap_place s bytes start gap).free at.0 at.1.range (heap_range s h at.0 at.1.range at.1.there) in
        absurd (not_both at.0 at.1.range.pages start (bytes / 4096) start apart at.1.from (omega (arith, at.1.to, long)) (omega arith) (omega (arith, some)))
  ] refl

  module _ (n block : ℕ) where
    -- a block in a hole
    new_in_hole : (hole : Spot) → IsHoleOf s.heap.shape.chunks hole → block_size n ≤ hole.size → payload_start s.heap hole ≡ block → IsNew s n block (block_taken n hole s)
    new_in_hole hole is fits at = (
      ap (get s.heap.payloads) (sym at) ∙ hole_free hole is,
      (size_taken (block_size n) hole.size - 16, room_for n hole.size fits, get-insert_same s.heap.payloads (payload_start s.heap hole) (zeros (size_taken (block_size n) hole.size - 16)) block (sym at)),
    )

    -- a large one
    new_large : (start : ℕ) → alloc_refusal n s.account ≡ None → own_heap_gap (page_of n) s ≡ Some start → start ≡ block → IsNew s n block (large_at n start s)
    new_large start accepted gap at =
        let some = valid_some n s.account accepted in (
          ap (get s.heap.payloads) (sym at) ∙ gap_without_payload (page_of n) start gap (omega arith),
          (page_of n, omega arith, get-insert_same s.heap.payloads start (zeros (page_of n)) block (sym at)),
        )

    -- what is told of what nothing refuses
    told : (why : Option Refusal) (o : Outcome) → (unless why s o).reply ≡ Attached block → (why ≡ None → o.reply ≡ Attached block → IsNew s n block o) → IsNew s n block (unless why s o)
    told (Some refusal) o is new = absurd (cc)
    told None o is new = new refl is

-- a block in a new chunk
new_grown : (s : OwnState) (h : IsSound s) (n block start : ℕ) → growth_refusal n s.heap.shape s.account ≡ None → own_heap_gap (growth_of n s.heap.shape s.account).bytes s ≡ Some start →
    (grown_at n (growth_of n s.heap.shape s.account) start s).reply ≡ Attached block → IsNew s n block (grown_at n (growth_of n s.heap.shape s.account) start s)
new_grown s h n block start accepted gap is =
    let growth : Growth = growth_of n s.heap.shape s.account in
    let grown : HasGrown n start s growth = has_grown n start s accepted gap h in
    let at : payload_start (chunk_added growth start s).heap (new_hole growth s.heap.shape) ≡ block = (let e : Attached (payload_start (chunk_added growth start s).heap (new_hole growth s.heap.shape)) ≡ Attached block = is in cc) in
    new_in_hole (chunk_added growth start s) grown.sound n block (new_hole growth s.heap.shape) grown.hole grown.fits at

module _ (s : OwnState) (h : IsSound s) (n block : ℕ) where
  -- a large block that is answered
  large_new : (gap : Option ℕ) → own_heap_gap (page_of n) s ≡ gap → alloc_refusal n s.account ≡ None → (large_in n gap s).reply ≡ Attached block → IsNew s n block (large_in n gap s)
  large_new None e accepted is = absurd (cc)
  large_new (Some start) e accepted is = new_large s h n block start accepted e (let t : Attached start ≡ Attached block = is in cc)

  -- one in a new chunk
  grown_new : (gap : Option ℕ) → own_heap_gap (growth_of n s.heap.shape s.account).bytes s ≡ gap → growth_refusal n s.heap.shape s.account ≡ None →
      (grown_in n (growth_of n s.heap.shape s.account) gap s).reply ≡ Attached block → IsNew s n block (grown_in n (growth_of n s.heap.shape s.account) gap s)
  grown_new None e accepted is = absurd (cc)
  grown_new (Some start) e accepted is = new_grown s h n block start accepted e is

  -- one of a chunk
  small_is_new : (hole : Option Spot) → hole_for n s.heap.shape ≡ hole → small_refusal n hole s.heap.shape s.account ≡ None → (small_new n hole s).reply ≡ Attached block → IsNew s n block (small_new n hole s)
  small_is_new (Some hole) e accepted is =
      let best = best_of_sound n hole s e h in
      new_in_hole s h n block hole best.0 best.1 (let t : Attached (payload_start s.heap hole) ≡ Attached block = is in cc)
  small_is_new None e accepted is = grown_new (own_heap_gap (growth_of n s.heap.shape s.account).bytes s) refl accepted is

  -- any
  any_new : (large : Bool) → is_large n ≡ large → (hole : Option Spot) → hole_for n s.heap.shape ≡ hole →
      (unless (cond (is_valid_size n) (cond large (shortage s.account (page_of n) 1) (small_refusal n hole s.heap.shape s.account)) (Some InvalidSize)) s
      (cond large (large_in n (own_heap_gap (page_of n) s) s) (small_new n hole s))).reply ≡ Attached block →
      IsNew s n block (unless (cond (is_valid_size n) (cond large (shortage s.account (page_of n) 1) (small_refusal n hole s.heap.shape s.account)) (Some InvalidSize)) s
      (cond large (large_in n (own_heap_gap (page_of n) s) s) (small_new n hole s)))
  any_new true e hole best is = told s h n block (alloc_refusal n s.account) (large_in n (own_heap_gap (page_of n) s) s) is (large_new (own_heap_gap (page_of n) s) refl)
  any_new false e hole best is = grind (arith, nat_tests, told, small_is_new, size_tested)

-- a new block of the heap is zeros where no block was
pub heap_new_zero : (s : OwnState) (n block : ℕ) → IsSound s → (script_step (New n) s).reply ≡ Attached block →
    (get s.heap.payloads block ≡ None) × ((size : ℕ) × (n ≤ size) × (get (script_step (New n) s).next.heap.payloads block ≡ Some (zeros size)))
heap_new_zero s n block h is = any_new s h n block (is_large n) refl (hole_for n s.heap.shape) refl is

-- ---- what is covered is given

module _ (machine : ℕ) (s : OwnState) (n : ℕ) (h : IsSound s) (uses : UsesWhatItHolds s) (small : machine ≤ largest_machine) (limit : s.account.ram_limit ≤ machine * 4096) where
  -- there is a gap for what the account covers
  gap_for : (bytes : ℕ) → shortage s.account bytes 1 ≡ None → (start : ℕ) × (own_heap_gap bytes s ≡ Some start)
  gap_for bytes enough =
      let fits = (covers s.account bytes 1 enough).ram_fits in
      let agree = machine_gap machine s (bytes / 4096) h uses small (omega arith) (omega arith) in
      some_of (own_heap_gap bytes s) (subst IsSome agree.1 agree.0)

  -- so a large block is given
  large_given : alloc_refusal n s.account ≡ None → (block : ℕ) × ((large_in n (own_heap_gap (page_of n) s) s).reply ≡ Attached block)
  large_given accepted = grind (arith, nat_tests, gap_for, accepted_size)

  -- and a block of a chunk
  small_given : (hole : Option Spot) → small_refusal n hole s.heap.shape s.account ≡ None → (block : ℕ) × ((small_new n hole s).reply ≡ Attached block)
  small_given (Some hole) accepted = (payload_start s.heap hole, refl)
  small_given None accepted =
      let growth : Growth = growth_of n s.heap.shape s.account in
      let gap = gap_for growth.bytes (accepted_growth n s.heap.shape s.account accepted).1 in
      (payload_start (chunk_added growth gap.0 s).heap (new_hole growth s.heap.shape), ap (λ o. (grown_in n growth o s).reply) gap.1)

  -- so any is
  any_given : (large : Bool) → cond (is_valid_size n) (cond large (shortage s.account (page_of n) 1) (small_refusal n (hole_for n s.heap.shape) s.heap.shape s.account)) (Some InvalidSize) ≡ None →
      (block : ℕ) × ((cond large (large_in n (own_heap_gap (page_of n) s) s) (small_new n (hole_for n s.heap.shape) s)).reply ≡ Attached block)
  any_given true accepted = large_given accepted
  any_given false accepted = small_given (hole_for n s.heap.shape) (size_tested (is_valid_size n) (small_refusal n (hole_for n s.heap.shape) s.heap.shape s.account) InvalidSize accepted)

  -- what no test refuses is given
  pub heap_covered_given : heap_refusal n s.heap.shape s.account ≡ None → (block : ℕ) × ((script_step (New n) s).reply ≡ Attached block)
  heap_covered_given accepted = grind (arith, nat_tests, any_given)
