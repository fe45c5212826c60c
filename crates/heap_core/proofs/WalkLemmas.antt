-- A walk over the headers of a chunk's bytes, a step at a time.
use Rattle.std.proofs.Common.{◌≡◌, ℕ, ◌+◌, ◌-◌, ◌*◌, ◌/◌, ◌%◌, ◌^◌, ◌<◌, ◌≤◌, List, length, min, get_or, eqb, sym, ap, subst, ◌∙◌, arith}
use Rattle.std.specs.Prelude.{if◌then◌else◌, nat_lt, slice_range}
use Rattle.trade_base.specs.Word.{word_of}
use Rattle.own_model.specs.Heap as heap
use Rattle.own_model.specs.Heap.{bytes_in}
use Rattle.avl_alloc.specs.declared.chunk.Block.{Block}
use Rattle.avl_alloc.specs.Words.{Words, IsWord, place_at}
use Rattle.avl_alloc.specs.Layout.{Laid, IsRoom}
use Rattle.avl_alloc.specs.Walk.{block_over, hole_in, IsWalking}
use Rattle.avl_alloc.proofs.HoleLemmas.{ltb-true, ltb-false}
use Rattle.avl_alloc.proofs.WalkLemmas.{ahead-start, ahead-read, of_chunk, step_there, walk_on, walk_found}
use Rattle.dataspace_core.specs.Store.{Store}
use Rattle.avl_alloc.specs.declared.chunk.Step.{Step}
use Rattle.heap_core.specs.Words.{word_from, word_in, bytes_in_store, around, bytes_around}
use Rattle.heap_core.specs.Walk.{HasWords, IsPageOf, HasRoom, IsEarlier, step_at}
use Rattle.heap_core.proofs.WordsLemmas.{range_in, range_whole, word_there, word_at_place, IsReached, is_reached, room_within}

-- a page of bytes has their words
pub page_words : (page bytes : List ℕ) (w : Words) (start offset : ℕ) → HasWords bytes w start → offset < 2 ^ 32 →
    page ≡ slice_range bytes (offset / 4096 * 4096) (offset / 4096 * 4096 + 4096) → length page ≡ 4096 → IsPageOf page w start offset
page_words page bytes w start offset words short is size q aligned fits =
    let whole = range_whole bytes (offset / 4096 * 4096) 4096 (omega arith) (sym (ap length is) ∙ size) in
    words (offset / 4096 * 4096 + q) (omega arith) (omega (arith, whole)) (omega arith)
    ∙ word_there bytes (offset / 4096 * 4096 + q) (omega arith) (omega (arith, whole))
    ∙ ap word_of (range_in bytes (offset / 4096 * 4096) 4096 q 8 whole fits)
    ∙ ap (λ p. word_of (slice_range p q (q + 8))) (sym is)

-- ---- within a page

-- the first step in a page
pub enter_page : (w : Words) (start target : ℕ) (blocks : List heap.Block) (step : Step) (n k page at size : ℕ) → IsWalking w start target blocks step n k → step.next ≤ target → step.next ≡ page + at → size ≡ w (start + (page + at)) →
    IsWalking w start target blocks (step_at page step.offset at at (at + size)) (n + 1) k
enter_page w start target blocks step n k page at size walking le is read =
    let on = walk_on w start target blocks step n k walking size le (read ∙ ap (λ o. w (start + o)) (sym is)) in
    let first : step.offset ≡ (if nat_lt at at then page + at else step.offset) = ap (λ t. if t then page + at else step.offset) (sym (ltb-false {m = at} {n = at} (omega arith))) in
    subst (λ z. IsWalking w start target blocks (record { before = z; offset = page + at; next = page + (at + size) }) (n + 1) k) first
    (subst (λ z. IsWalking w start target blocks (record { before = step.offset; offset = page + at; next = z }) (n + 1) k) (omega arith)
    (subst (λ z. IsWalking w start target blocks (record { before = step.offset; offset = z; next = z + size }) (n + 1) k) is on))

-- a further step in it
pub step_page : (w : Words) (start target : ℕ) (blocks : List heap.Block) (n k page outside before offset next size : ℕ) → IsWalking w start target blocks (step_at page outside before offset next) n k → page + next ≤ target → size ≡ w (start + (page + next)) →
    IsWalking w start target blocks (step_at page outside offset next (next + size)) (n + 1) k
step_page w start target blocks n k page outside before offset next size walking le read =
    let at = step_at page outside before offset next in
    let on = walk_on w start target blocks at n k walking size le read in
    let there = (step_there w start target blocks at n k walking).least in
    let behind : page + offset ≡ (if nat_lt offset next then page + offset else outside) = ap (λ t. if t then page + offset else outside) (sym (ltb-true {m = offset} {n = next} (omega (arith, there)))) in
    subst (λ z. IsWalking w start target blocks (record { before = z; offset = page + next; next = page + (next + size) }) (n + 1) k) behind
    (subst (λ z. IsWalking w start target blocks (record { before = page + offset; offset = page + next; next = z }) (n + 1) k) (omega arith) on)

-- an offset before the end of a walk in a page
pub record IsAheadIn (start target at : ℕ) : Type 0 where
  pub inside : at < 4096
  pub reached : start + at ≤ target

pub before_end : (first target end at : ℕ) → end ≡ min (target - first / 4096 * 4096 + 1) 4096 → first ≤ target → at < end → IsAheadIn (first / 4096 * 4096) target at
before_end first target end at is le lt = record { inside = omega (arith, is, lt); reached = omega (arith, is, le, lt) }

-- what a step in a page needs
pub record IsNext (page : List ℕ) (blocks : List heap.Block) (first next : ℕ) : Type 0 where
  pub within : next + 8 ≤ 4096
  pub end : first + (next + word_of (slice_range page next (next + 8))) ≤ bytes_in blocks

module _ (page : List ℕ) (w : Words) (start target : ℕ) (blocks : List heap.Block) (at : ℕ) (is : IsPageOf page w start at) where
  abbrev pub first : ℕ
  first = at / 4096 * 4096

  abbrev pub word : ℕ → ℕ
  word offset = word_of (slice_range page offset (offset + 8))

  module _ (outside before offset next n k : ℕ) (ahead : IsAheadIn first target next) (walking : IsWalking w start target blocks (step_at first outside before offset next) n k) where
    fits : next + 8 ≤ 4096
    fits = let even = (step_there w start target blocks (step_at first outside before offset next) n k walking).next_even in let inside = ahead.inside in omega (arith, even, inside)

    on : IsWalking w start target blocks (step_at first outside offset next (next + word next)) (n + 1) k
    on =
        let even = (step_there w start target blocks (step_at first outside before offset next) n k walking).next_even in
        step_page w start target blocks n k first outside before offset next (word next) walking ahead.reached (sym (is next (omega (arith, even)) fits))

    pub page_next : IsNext page blocks first next
    page_next = record { within = fits; end = (step_there w start target blocks (step_at first outside offset next (next + word next)) (n + 1) k on).end }

    pub page_on : (after m : ℕ) → after ≡ next + word next → m ≡ n + 1 → IsWalking w start target blocks (step_at first outside offset next after) m k
    page_on after m is_after counted =
        subst (λ z. IsWalking w start target blocks (step_at first outside offset next after) z k) (sym counted)
        (subst (λ z. IsWalking w start target blocks (step_at first outside offset next z) (n + 1) k) (sym is_after) on)

  module _ (step : Step) (n k : ℕ) (same : at ≡ step.next) (le : step.next ≤ target) (walking : IsWalking w start target blocks step n k) where
    abbrev pub place : ℕ
    place = at - first

    first_fits : place + 8 ≤ 4096
    first_fits = let even = (step_there w start target blocks step n k walking).next_even in omega (arith, even, same)

    step_first : IsWalking w start target blocks (step_at first step.offset place place (place + word place)) (n + 1) k
    step_first =
        let even = (step_there w start target blocks step n k walking).next_even in
        enter_page w start target blocks step n k first place (word place) walking le (omega (arith, same)) (sym (is place (omega (arith, even, same)) first_fits))

    pub first_next : IsNext page blocks first place
    first_next = record { within = first_fits; end = (step_there w start target blocks (step_at first step.offset place place (place + word place)) (n + 1) k step_first).end }

    pub first_on : (after m : ℕ) → after ≡ place + word place → m ≡ n + 1 → IsWalking w start target blocks (step_at first step.offset place place after) m k
    first_on after m is_after counted =
        subst (λ z. IsWalking w start target blocks (step_at first step.offset place place after) z k) (sym counted)
        (subst (λ z. IsWalking w start target blocks (step_at first step.offset place place z) (n + 1) k) (sym is_after) step_first)

-- ---- the end of the walk

-- a step's block lies in a chunk of so many bytes
pub record IsInside (step : Step) (size : ℕ) : Type 0 where
  pub even : step.offset % 16 ≡ 0
  pub least : step.offset + 48 ≤ step.next
  pub within : step.next ≤ size
  pub short : step.next ≤ 2 ^ 32
  pub earlier : IsEarlier step size

pub walk_inside : (w : Words) (start target size : ℕ) (blocks : List heap.Block) (step : Step) (n k : ℕ) → HasRoom blocks size → IsWalking w start target blocks step n k → IsInside step size
walk_inside w start target size blocks step n k room walking =
    let there = step_there w start target blocks step n k walking in
    let least = there.least in let end = there.end in let within = room.within in let short = room.short in let order = walking.order in
    record {
      even = there.even;
      least = least;
      within = omega arith;
      short = omega arith;
      earlier = record { even = walking.even; order = order; within = omega arith; short = omega arith };
    }

-- what the last two loads make of the last step
pub walk_result : (bytes : List ℕ) (w : Words) (start target : ℕ) (blocks : List heap.Block) (step : Step) (n k state hole : ℕ) → HasWords bytes w start → IsInside step (length bytes) → IsWalking w start target blocks step n k → target < step.next →
    state ≡ word_of (slice_range bytes (step.offset + 8) (step.offset + 8 + 8)) → hole ≡ hole_in (word_from bytes (step.before + 8)) step.before step.offset →
    (let found : Block = record { offset = step.offset; size = step.next - step.offset; used = eqb state 1; before = hole } in found ≡ block_over 0 0 target blocks)
walk_result bytes w start target blocks step n k state hole words inside walking lt state_read hole_read =
    let even = inside.even in let least = inside.least in let within = inside.within in let short = inside.short in
    let earlier = inside.earlier in let early = earlier.even in let order = earlier.order in
    let aligned : (step.offset + 8) % 8 ≡ 0 = omega (arith, even) in
    let long : step.offset + 8 + 8 ≤ length bytes = omega (arith, least, within) in
    let state_is : w (start + step.offset + 8) ≡ state =
    ap w (omega arith) ∙ words (step.offset + 8) aligned long (omega (arith, least, short)) ∙ word_there bytes (step.offset + 8) aligned long ∙ sym state_read in
    let hole_is : hole_in (w (start + step.before + 8)) step.before step.offset ≡ hole =
    ap (λ s. hole_in s step.before step.offset) (ap w (omega arith) ∙ words (step.before + 8) (omega (arith, early)) (omega (arith, order, least, within)) (omega (arith, order, least, short))) ∙ sym hole_read in
    subst (λ z. (let found : Block = record { offset = step.offset; size = step.next - step.offset; used = eqb state 1; before = z } in found ≡ block_over 0 0 target blocks)) hole_is
    (subst (λ z. (let found : Block = record { offset = step.offset; size = step.next - step.offset; used = eqb z 1; before = hole_in (w (start + step.before + 8)) step.before step.offset } in found ≡ block_over 0 0 target blocks)) state_is
    (walk_found w start target blocks step n k walking lt))

-- ---- a chunk

-- the words of a chunk are those of its dataspace
pub chunk_words : (keys : List ℕ) (bytes : ℕ → List ℕ) (chunk : ℕ) → chunk < length keys → HasWords (bytes (get_or keys chunk 0)) (word_in keys bytes) (place_at chunk 0)
chunk_words keys bytes chunk there q aligned fits short = ap (word_in keys bytes) (omega arith) ∙ word_at_place keys bytes chunk q there short

-- blocks of a chunk lie in its dataspace
pub record LieInChunk (keys : List ℕ) (store : Store) (chunk : ℕ) (blocks : List heap.Block) : Type 0 where
  pub at : IsReached keys store chunk 0
  pub room : HasRoom blocks (length (bytes_in_store store (get_or keys chunk 0)))

pub chunk_blocks : (keys : List ℕ) (store : Store) (chunk target : ℕ) (blocks : List heap.Block) → Laid (word_in keys (bytes_in_store store)) (place_at chunk 0) blocks → IsRoom (bytes_around (around keys store)) (place_at chunk 0) (bytes_in blocks) → target < bytes_in blocks → LieInChunk keys store chunk blocks
chunk_blocks keys store chunk target blocks laid room inside =
    let w = word_in keys (bytes_in_store store) in
    let bytes = bytes_around (around keys store) in
    let read = ahead-read w (place_at chunk 0) 0 0 target blocks 0 0 inside bytes room blocks (ahead-start w (place_at chunk 0) target blocks 0 laid) in
    let within = subst (λ c. bytes_in blocks ≤ bytes c) (of_chunk chunk) room.within in
    record {
      at = is_reached keys store chunk 0 (subst (λ c. IsWord bytes c 0) (of_chunk chunk) read.size_word);
      room = record { within = room_within keys store chunk (bytes_in blocks) (omega (arith, inside)) within; short = room.short };
    }
