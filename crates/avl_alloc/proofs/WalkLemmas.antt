-- A walk along a chunk's headers, a block at a time.
use Rattle.std.proofs.lemmas.Bool.{cases_lt}
use Rattle.std.proofs.lemmas.Bool.Decides.{nat_tests}
use Rattle.std.proofs.Common.{◌≡◌, ℕ, ◌+◌, ◌-◌, ◌*◌, ◌/◌, ◌%◌, ◌^◌, ◌<◌, ◌≤◌, Bool, true, false, refl, sym, ap, ◌∙◌, subst, arith, List, [], ◌∷◌, length, inl, inr, eqb}
use Rattle.std.specs.Prelude.{nat_lt, if◌then◌else◌}
use Rattle.own_model.specs.Heap as heap
use Rattle.own_model.specs.Heap.{Used, Hole, size_of, bytes_in, IsBlockSize}
use Rattle.avl_alloc.specs.declared.chunk.Block.{Block}
use Rattle.avl_alloc.specs.declared.chunk.Step.{Step}
use Rattle.avl_alloc.specs.Words.{Words, IsWord, place_at}
use Rattle.avl_alloc.specs.Layout.{Laid, IsRoom}
use Rattle.avl_alloc.specs.Walk.{block_over, blocks_before, walk_loads, IsAhead, hole_in, behind, IsWalking}
use Rattle.avl_alloc.proofs.HoleLemmas.{ltb-true, ltb-false}

pub ahead-start : (w : Words) (start target : ℕ) (blocks : List heap.Block) (n : ℕ) → Laid w start blocks → IsAhead w start 0 0 target blocks blocks n n
ahead-start w start target blocks n laid = record {
  laid = subst (λ p. Laid w p blocks) (omega arith) laid;
  total = omega arith;
  even = omega arith;
  reached = omega arith;
  same = refl;
  counted = refl;
}

-- fewer blocks are before the one that has an offset than there are
fewer_before : (from target : ℕ) (blocks : List heap.Block) → target < from + bytes_in blocks → from ≤ target → 1 + blocks_before from target blocks ≤ length blocks
fewer_before from target [] lt le = absurd (omega arith)
fewer_before from target (b ∷ rest) lt le =
    elim (cases_lt target (from + size_of b)) [
      | inl here ↦ let test : nat_lt target (from + size_of b) ≡ true = ltb-true here in rw test (omega arith)
      | inr past ↦
          let test : nat_lt target (from + size_of b) ≡ false = ltb-false past in
          let few = fewer_before (from + size_of b) target rest (omega (arith, lt)) past in
          rw test (omega (arith, few))
    ]

-- so a walk loads at most two words for each block
pub walk_loads_few : (target : ℕ) (blocks : List heap.Block) → target < bytes_in blocks → walk_loads target blocks ≤ 2 * length blocks
walk_loads_few target blocks lt =
    let few = fewer_before 0 target blocks (omega (arith, lt)) (omega arith) in
    grind (arith, nat_tests)

-- a chunk's first place tells its number
pub of_chunk : (chunk : ℕ) → place_at chunk 0 / 2 ^ 32 - 1 ≡ chunk
of_chunk chunk = omega arith

-- and every other place is so far from it
pub at_start : (chunk offset : ℕ) → place_at chunk offset ≡ place_at chunk 0 + offset
at_start chunk offset = omega arith

pub at_start_more : (chunk offset more : ℕ) → place_at chunk (offset + more) ≡ place_at chunk 0 + offset + more
at_start_more chunk offset more = omega arith

-- the words of a header lie within the chunk
header_word : (bytes : ℕ → ℕ) (start from total m : ℕ) → IsRoom bytes start total → from % 16 ≡ 0 → from + m ≤ total → 48 ≤ m → (q : ℕ) → q % 8 ≡ 0 → q ≤ 8 → IsWord bytes (start / 2 ^ 32 - 1) (from + q)
header_word bytes start from total m room even in_chunk least q step small =
    record { aligned = omega arith; within = omega (arith, room.within); short = omega (arith, room.short) }

-- what the walk reads where it stands
pub record IsRead (bytes : ℕ → ℕ) (w : Words) (start from : ℕ) : Type 0 where
  pub size_word : IsWord bytes (start / 2 ^ 32 - 1) from
  pub state_word : IsWord bytes (start / 2 ^ 32 - 1) (from + 8)
  pub short : from + w (start + from) ≤ 2 ^ 32
  pub some : 1 ≤ w (start + from)

module _ (w : Words) (start from before target : ℕ) (blocks : List heap.Block) (n k : ℕ) (inside : target < bytes_in blocks) where
  read_block : (bytes : ℕ → ℕ) → IsRoom bytes start (bytes_in blocks) → (m : ℕ) → IsBlockSize m → w (start + from) ≡ m → from % 16 ≡ 0 → from + m ≤ bytes_in blocks → IsRead bytes w start from
  read_block bytes room m sized is even le = record {
    size_word = subst (IsWord bytes (start / 2 ^ 32 - 1)) (omega arith) (header_word bytes start from (bytes_in blocks) m room even le sized.least 0 (omega arith) (omega arith));
    state_word = header_word bytes start from (bytes_in blocks) m room even le sized.least 8 (omega arith) (omega arith);
    short = omega (arith, room.short);
    some = omega (arith, sized.least);
  }

  -- where the walk stands there is a header
  pub ahead-read : (bytes : ℕ → ℕ) → IsRoom bytes start (bytes_in blocks) → (ahead : List heap.Block) → IsAhead w start from before target blocks ahead n k → IsRead bytes w start from
  ahead-read bytes room [] is = let total = is.total in let reached = is.reached in absurd (omega arith)
  ahead-read bytes room (Used m ∷ rest) is = read_block bytes room m is.laid.0.sized is.laid.0.size is.even (omega (arith, is.total))
  ahead-read bytes room (Hole m ∷ rest) is = read_block bytes room m is.laid.0.sized is.laid.0.size is.even (omega (arith, is.total))

  -- where the block there is the last one, all before it are passed
  pub ahead-passed : target < from + w (start + from) → (ahead : List heap.Block) → IsAhead w start from before target blocks ahead n k → n ≡ k + blocks_before 0 target blocks
  ahead-passed lt [] is = let total = is.total in let reached = is.reached in absurd (omega arith)
  ahead-passed lt (Used m ∷ rest) is =
      let test : nat_lt target (from + m) ≡ true = ltb-true (omega (arith, is.laid.0.size)) in
      omega (arith, subst (λ z. n + (if z then 0 else 1 + blocks_before (from + m) target rest) ≡ k + blocks_before 0 target blocks) test is.counted)
  ahead-passed lt (Hole m ∷ rest) is =
      let test : nat_lt target (from + m) ≡ true = ltb-true (omega (arith, is.laid.0.size)) in
      omega (arith, subst (λ z. n + (if z then 0 else 1 + blocks_before (from + m) target rest) ≡ k + blocks_before 0 target blocks) test is.counted)

  -- the block there is the one that is looked for
  pub ahead-here : (size : ℕ) (used : Bool) → size ≡ w (start + from) → used ≡ eqb (w (start + from + 8)) 1 → target < from + size → (ahead : List heap.Block) → IsAhead w start from before target blocks ahead n k →
      (let found : Block = record { offset = from; size = size; used = used; before = before } in found ≡ block_over 0 0 target blocks)
  ahead-here size used read state lt [] is = let total = is.total in let reached = is.reached in absurd (omega arith)
  ahead-here size used read state lt (Used m ∷ rest) is =
      let sized : size ≡ m = read ∙ is.laid.0.size in
      let is_used : used ≡ true = state ∙ ap (λ v. eqb v 1) is.laid.0.state in
      let test : nat_lt target (from + m) ≡ true = ltb-true (omega arith) in
      let there = subst (λ z. (if z then record { offset = from; size = m; used = true; before = before } else block_over (from + m) 0 target rest) ≡ block_over 0 0 target blocks) test is.same in
      subst (λ z. (let found : Block = record { offset = from; size = z; used = used; before = before } in found ≡ block_over 0 0 target blocks)) (sym sized)
      (subst (λ z. (let found : Block = record { offset = from; size = m; used = z; before = before } in found ≡ block_over 0 0 target blocks)) (sym is_used) there)
  ahead-here size used read state lt (Hole m ∷ rest) is =
      let sized : size ≡ m = read ∙ is.laid.0.size in
      let is_used : used ≡ false = state ∙ ap (λ v. eqb v 1) is.laid.0.state in
      let test : nat_lt target (from + m) ≡ true = ltb-true (omega arith) in
      let there = subst (λ z. (if z then record { offset = from; size = m; used = false; before = before } else block_over (from + m) m target rest) ≡ block_over 0 0 target blocks) test is.same in
      subst (λ z. (let found : Block = record { offset = from; size = z; used = used; before = before } in found ≡ block_over 0 0 target blocks)) (sym sized)
      (subst (λ z. (let found : Block = record { offset = from; size = m; used = z; before = before } in found ≡ block_over 0 0 target blocks)) (sym is_used) there)

  -- or the walk goes on behind it
  pub ahead-on : (size : ℕ) (used : Bool) → size ≡ w (start + from) → used ≡ eqb (w (start + from + 8)) 1 → from + size ≤ target → (ahead : List heap.Block) → IsAhead w start from before target blocks ahead n k →
      (rest : List heap.Block) × IsAhead w start (from + size) (if used then 0 else size) target blocks rest (n + 1) k
  ahead-on size used read state le [] is = let total = is.total in let reached = is.reached in absurd (omega arith)
  ahead-on size used read state le (Used m ∷ rest) is =
      let sized : size ≡ m = read ∙ is.laid.0.size in
      let is_used : used ≡ true = state ∙ ap (λ v. eqb v 1) is.laid.0.state in
      let test : nat_lt target (from + m) ≡ false = ltb-false (omega arith) in
      let on = subst (λ z. (if z then record { offset = from; size = m; used = true; before = before } else block_over (from + m) 0 target rest) ≡ block_over 0 0 target blocks) test is.same in
      let even = is.laid.0.sized.even in
      let even' = is.even in (
        rest,
        subst (λ z. IsAhead w start (from + z) (if used then 0 else z) target blocks rest (n + 1) k) (sym sized)
            (subst (λ z. IsAhead w start (from + m) (if z then 0 else m) target blocks rest (n + 1) k) (sym is_used) (record {
              laid = subst (λ p. Laid w p rest) (omega arith) is.laid.1;
              total = omega (arith, is.total);
              even = omega arith;
              reached = omega arith;
              same = on;
              counted = omega (arith, subst (λ z. n + (if z then 0 else 1 + blocks_before (from + m) target rest) ≡ k + blocks_before 0 target blocks) test is.counted);
            })),
      )
  ahead-on size used read state le (Hole m ∷ rest) is =
      let sized : size ≡ m = read ∙ is.laid.0.size in
      let is_used : used ≡ false = state ∙ ap (λ v. eqb v 1) is.laid.0.state in
      let test : nat_lt target (from + m) ≡ false = ltb-false (omega arith) in
      let on = subst (λ z. (if z then record { offset = from; size = m; used = false; before = before } else block_over (from + m) m target rest) ≡ block_over 0 0 target blocks) test is.same in
      let even = is.laid.0.sized.even in
      let even' = is.even in (
        rest,
        subst (λ z. IsAhead w start (from + z) (if used then 0 else z) target blocks rest (n + 1) k) (sym sized)
            (subst (λ z. IsAhead w start (from + m) (if z then 0 else m) target blocks rest (n + 1) k) (sym is_used) (record {
              laid = subst (λ p. Laid w p rest) (omega arith) is.laid.1;
              total = omega (arith, is.total);
              even = omega arith;
              reached = omega arith;
              same = on;
              counted = omega (arith, subst (λ z. n + (if z then 0 else 1 + blocks_before (from + m) target rest) ≡ k + blocks_before 0 target blocks) test is.counted);
            })),
      )

-- the block that is ahead is a whole one of the chunk
pub record IsBlockThere (size from total : ℕ) : Type 0 where
  pub even : size % 16 ≡ 0
  pub least : 48 ≤ size
  pub within : from + size ≤ total

pub ahead-block : (w : Words) (start from before target : ℕ) (blocks ahead : List heap.Block) (n k : ℕ) → target < bytes_in blocks → IsAhead w start from before target blocks ahead n k → IsBlockThere (w (start + from)) from (bytes_in blocks)
ahead-block w start from before target blocks [] n k inside is = let total = is.total in let reached = is.reached in absurd (omega arith)
ahead-block w start from before target blocks (Used m ∷ rest) n k inside is =
    let size = is.laid.0.size in let sized = is.laid.0.sized in
    record { even = rw size sized.even; least = rw size sized.least; within = omega (arith, size, is.total) }
ahead-block w start from before target blocks (Hole m ∷ rest) n k inside is =
    let size = is.laid.0.size in let sized = is.laid.0.sized in
    record { even = rw size sized.even; least = rw size sized.least; within = omega (arith, size, is.total) }

-- ---- a walk's steps

-- no bytes are free between an offset and itself
pub no_hole : (used : Bool) (from to : ℕ) → from ≡ to → (if used then 0 else to - from) ≡ 0
no_hole true from to same = refl
no_hole false from to same = omega (arith, same)

-- the first step
pub walk_start : (w : Words) (start target size : ℕ) (blocks : List heap.Block) (k : ℕ) → Laid w start blocks → target < bytes_in blocks → size ≡ w (start + 0) →
    IsWalking w start target blocks (record { before = 0; offset = 0; next = size }) (k + 1) k
walk_start w start target size blocks k laid inside read = record {
  inside = inside;
  ahead = blocks;
  is = subst (λ z. IsAhead w start 0 z target blocks blocks (k + 1) (k + 1)) (sym (no_hole (eqb (w (start + 0 + 8)) 1) 0 0 refl)) (ahead-start w start target blocks (k + 1) laid);
  next = omega (arith, read);
  even = refl;
  order = omega arith;
  begun = omega arith;
  passed = grind (arith, nat_tests);
}

-- the block of a step is a whole one among so many bytes
pub record IsWholeBlock (step : Step) (total : ℕ) : Type 0 where
  pub even : step.offset % 16 ≡ 0
  pub next_even : step.next % 16 ≡ 0
  pub least : step.offset + 48 ≤ step.next
  pub end : step.next ≤ total

module _ (w : Words) (start target : ℕ) (blocks : List heap.Block) (step : Step) (n k : ℕ) (walking : IsWalking w start target blocks step n k) where
  abbrev used : Bool
  used = eqb (w (start + step.offset + 8)) 1

  abbrev before : ℕ
  before = hole_in (w (start + step.before + 8)) step.before step.offset

  -- the block of a step is a whole one, and lies in the chunk
  pub step_there : IsWholeBlock step (bytes_in blocks)
  step_there =
      let at = ahead-block w start step.offset before target blocks walking.ahead n (k + 1) walking.inside walking.is in
      let next = walking.next in let even = walking.is.even in let even' = at.even in
      record { even = even; next_even = omega arith; least = omega (arith, at.least); end = omega (arith, at.within) }

  -- the step to the next block
  pub walk_on : (size : ℕ) → step.next ≤ target → size ≡ w (start + step.next) → IsWalking w start target blocks (record { before = step.offset; offset = step.next; next = step.next + size }) (n + 1) k
  walk_on size le read =
      let next = walking.next in
      let sized : w (start + step.offset) ≡ step.next - step.offset = omega (arith, next) in
      let on = ahead-on w start step.offset before target blocks n (k + 1) walking.inside
      (w (start + step.offset)) used refl refl (omega (arith, next, le)) walking.ahead walking.is in
      let least = step_there.least in
      let begun = walking.begun in
      record {
        inside = walking.inside;
        ahead = on.0;
        is = subst (λ z. IsAhead w start z (if used then 0 else (step.next - step.offset)) target blocks on.0 (n + 1) (k + 1)) (sym next)
            (subst (λ z. IsAhead w start (step.offset + w (start + step.offset)) (if used then 0 else z) target blocks on.0 (n + 1) (k + 1)) sized on.1);
        next = omega (arith, read);
        even = walking.is.even;
        order = omega (arith, next);
        begun = omega (arith, begun);
        passed = grind (arith, nat_tests);
      }

  -- the block that contains the target
  pub walk_found : target < step.next → (let found : Block = record { offset = step.offset; size = step.next - step.offset; used = used; before = before } in found ≡ block_over 0 0 target blocks)
  walk_found lt =
      let next = walking.next in
      ahead-here w start step.offset before target blocks n (k + 1) walking.inside
      (step.next - step.offset) used (omega (arith, next)) refl (omega (arith, next, lt)) walking.ahead walking.is

  -- with the states of the last two blocks, these are all the loads
  pub walk_counted : target < step.next → n + 1 + behind step ≡ k + walk_loads target blocks
  walk_counted lt =
      let counted = ahead-passed w start step.offset before target blocks n (k + 1) walking.inside (omega (arith, walking.next, lt)) walking.ahead walking.is in
      let passed = walking.passed in
      grind (arith, nat_tests)

  -- what the states of the last two blocks make of it
  pub walk_block : target < step.next → (state hole : ℕ) → state ≡ w (start + step.offset + 8) → hole ≡ before → (let found : Block = record { offset = step.offset; size = step.next - step.offset; used = eqb state 1; before = hole } in found ≡ block_over 0 0 target blocks)
  walk_block lt state hole state_is hole_is =
      subst (λ z. (let found : Block = record { offset = step.offset; size = step.next - step.offset; used = eqb state 1; before = z } in found ≡ block_over 0 0 target blocks)) (sym hole_is)
      (subst (λ z. (let found : Block = record { offset = step.offset; size = step.next - step.offset; used = eqb z 1; before = before } in found ≡ block_over 0 0 target blocks)) (sym state_is)
      (walk_found lt))

  -- the states of a step's block and of the block before it are in the chunk
  pub state_word : (bytes : ℕ → ℕ) → IsRoom bytes start (bytes_in blocks) → IsWord bytes (start / 2 ^ 32 - 1) (step.offset + 8)
  state_word bytes room = let at = step_there in header_word bytes start step.offset (bytes_in blocks) 48 room at.even (omega (arith, at.least, at.end)) (omega arith) 8 (omega arith) (omega arith)

  pub before_word : (bytes : ℕ → ℕ) → IsRoom bytes start (bytes_in blocks) → IsWord bytes (start / 2 ^ 32 - 1) (step.before + 8)
  before_word bytes room = let at = step_there in header_word bytes start step.before (bytes_in blocks) 48 room walking.even (omega (arith, at.least, at.end, walking.order)) (omega arith) 8 (omega arith) (omega arith)

  -- and so is the size of the next block
  pub next_read : (bytes : ℕ → ℕ) → IsRoom bytes start (bytes_in blocks) → step.next ≤ target → IsRead bytes w start step.next
  next_read bytes room le =
      let on = walk_on (w (start + step.next)) le refl in
      ahead-read w start step.next _ target blocks (n + 1) (k + 1) walking.inside bytes room on.ahead on.is
