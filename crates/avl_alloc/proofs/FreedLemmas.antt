-- The block that a walk ends in, by the definition: which payload it has, and what giving it back makes of its chunk.
use Rattle.std.proofs.Common.{◌≡◌, ℕ, zero, suc, ◌+◌, ◌-◌, ◌<◌, ◌≤◌, true, false, refl, sym, ap, ◌∙◌, subst, inl, inr, arith, List, [], ◌∷◌, ◌++◌, Option, Some, None}
use Rattle.std.specs.Prelude.{◌==◌, nat_lt, if◌then◌else◌}
use Rattle.std.proofs.lemmas.Bool.{cases_lt}
use Rattle.std.proofs.lemmas.Bool.Decides.{nat_tests}
use Rattle.std.proofs.lemmas.List.{append_assoc}
use Rattle.own_model.specs.Heap.{Block, Used, Hole, bytes_in, AreBlocks}
use Rattle.own_model.specs.BestFit.{before, given_in, used_at, payload_at}
use Rattle.avl_alloc.specs.declared.chunk.Block.{Block as BlockFound}
use Rattle.avl_alloc.specs.Context.{gap, first_hole}
use Rattle.avl_alloc.specs.Walk.{block_over, block_there}
use Rattle.avl_alloc.proofs.HoleLemmas.{ltb-true, ltb-false}
use Rattle.avl_alloc.proofs.WeightLemmas.{AreLong}
use Rattle.avl_alloc.proofs.StandLemmas.{gap_some, gap_bytes}
use Rattle.avl_alloc.proofs.LayoutLemmas.{payload_over, payload_past, payload_is}
use Rattle.avl_alloc.proofs.TakenLemmas.{StartsUsed, hole_behind, hole_before}
use Rattle.own_model.proofs.HeapBlockLemmas.{bytes-append}
use Rattle.own_model.proofs.HeapBlockLemmas.{AreBlocks-before}

-- ---- where an address lies

pub there_none : (target : ℕ) (blocks : List Block) → bytes_in blocks ≤ target → None ≡ block_there target blocks
there_none target blocks le = let test : nat_lt target (bytes_in blocks) ≡ false = ltb-false le in simp test

pub there_some : (target : ℕ) (blocks : List Block) (b : BlockFound) → target < bytes_in blocks → b ≡ block_over 0 0 target blocks → Some b ≡ block_there target blocks
there_some target blocks b lt is = let test : nat_lt target (bytes_in blocks) ≡ true = ltb-true lt in simp test (ap Some is)

pub none_there : (target : ℕ) (blocks : List Block) → None ≡ block_there target blocks → bytes_in blocks ≤ target
none_there target blocks none =
    elim (cases_lt target (bytes_in blocks)) [
      | inl lt ↦ let some = there_some target blocks (block_over 0 0 target blocks) lt refl in absurd (cc)
      | inr ge ↦ ge
    ]

pub some_there : (target : ℕ) (blocks : List Block) (b : BlockFound) → Some b ≡ block_there target blocks → (target < bytes_in blocks) × (b ≡ block_over 0 0 target blocks)
some_there target blocks b some =
    elim (cases_lt target (bytes_in blocks)) [
      | inl lt ↦ let there = there_some target blocks (block_over 0 0 target blocks) lt refl in (lt, cc)
      | inr ge ↦ let none = there_none target blocks ge in absurd (cc)
    ]

pub payload_none : (target : ℕ) (blocks : List Block) → None ≡ block_there target blocks → None ≡ payload_at 0 target blocks
payload_none target blocks none = sym (payload_past 0 target blocks (none_there target blocks none))

pub payload_some : (target : ℕ) (blocks : List Block) (b : BlockFound) → Some b ≡ block_there target blocks → payload_over target b ≡ payload_at 0 target blocks
payload_some target blocks b some = let there = some_there target blocks b some in sym (payload_is target blocks b there.0 there.1)

-- ---- the used block that starts there

-- the size of a walk's end, where it is used and starts at the target
abbrev pub used_over : ℕ → BlockFound → Option ℕ
used_over target b = if b.used then (if b.offset == target then Some b.size else None) else None

used_past : (offset : ℕ) (blocks : List Block) → AreLong blocks → bytes_in blocks ≤ offset → used_at offset blocks ≡ None
used_past offset [] long le = refl
used_past offset (Used n ∷ rest) long le =
    let least = long.0 in
    let first : (offset == 0) ≡ false = grind (arith, nat_tests) in
    let there : nat_lt offset n ≡ false = ltb-false (omega arith) in
    simp (first, there) (used_past (offset - n) rest long.1 (omega arith))
used_past offset (Hole n ∷ rest) long le =
    let there : nat_lt offset n ≡ false = ltb-false (omega arith) in
    simp there (used_past (offset - n) rest long.1 (omega arith))

used_walked : (from back target : ℕ) (blocks : List Block) → AreLong blocks → from ≤ target → target < from + bytes_in blocks →
    used_at (target - from) blocks ≡ used_over target (block_over from back target blocks)
used_walked from back target [] long le lt = absurd (omega arith)
used_walked from back target (Used n ∷ rest) long le lt =
    let least = long.0 in
    elim (cases_lt target (from + n)) [
      | inl inside ↦
          let here : nat_lt target (from + n) ≡ true = ltb-true inside in
          elim (cases_lt from target) [
            | inl past ↦
                let first : (target - from == 0) ≡ false = grind (arith, nat_tests) in
                let start : (from == target) ≡ false = grind (arith, nat_tests) in
                let there : nat_lt (target - from) n ≡ true = ltb-true (omega arith) in
                simp (here, first, start, there)
            | inr not_past ↦
                let first : (target - from == 0) ≡ true = grind (arith, nat_tests) in
                let start : (from == target) ≡ true = grind (arith, nat_tests) in
                simp (here, first, start)
          ]
      | inr behind ↦
          let here : nat_lt target (from + n) ≡ false = ltb-false behind in
          let first : (target - from == 0) ≡ false = grind (arith, nat_tests) in
          let there : nat_lt (target - from) n ≡ false = ltb-false (omega arith) in
          let left : target - from - n ≡ target - (from + n) = omega arith in
          let on = used_walked (from + n) 0 target rest long.1 behind (omega arith) in
          simp (here, first, there) (rw left on)
    ]
used_walked from back target (Hole n ∷ rest) long le lt =
    elim (cases_lt target (from + n)) [
      | inl inside ↦
          let here : nat_lt target (from + n) ≡ true = ltb-true inside in
          let there : nat_lt (target - from) n ≡ true = ltb-true (omega arith) in
          simp (here, there)
      | inr behind ↦
          let here : nat_lt target (from + n) ≡ false = ltb-false behind in
          let there : nat_lt (target - from) n ≡ false = ltb-false (omega arith) in
          let left : target - from - n ≡ target - (from + n) = omega arith in
          let on = used_walked (from + n) n target rest long.1 behind (omega arith) in
          simp (here, there) (rw left on)
    ]

pub used_none : (target : ℕ) (blocks : List Block) → AreLong blocks → None ≡ block_there target blocks → None ≡ used_at target blocks
used_none target blocks long none = sym (used_past target blocks long (none_there target blocks none))

pub used_some : (target : ℕ) (blocks : List Block) (b : BlockFound) → AreLong blocks → Some b ≡ block_there target blocks → used_over target b ≡ used_at target blocks
used_some target blocks b long some =
    let there = some_there target blocks b some in
    let walked = used_walked 0 0 target blocks long (omega arith) (omega (arith, there.0)) in
    let whole : target - 0 ≡ target = omega arith in
    ap (used_over target) there.1 ∙ sym walked ∙ ap (λ x. used_at x blocks) whole

-- ---- given back

-- the blocks behind a hole that comes first
abbrev pub past_hole : List Block → List Block
past_hole [] = []
past_hole (Used n ∷ rest) = Used n ∷ rest
past_hole (Hole n ∷ rest) = rest

pub past_is : (xs : List Block) → AreLong xs → gap (first_hole xs) ++ past_hole xs ≡ xs
past_is [] long = refl
past_is (Used n ∷ rest) long = refl
past_is (Hole n ∷ rest) long = let least = long.0 in ap (λ g. g ++ rest) (gap_some n (omega arith))

before_is : (n : ℕ) (xs : List Block) → before n xs ≡ Hole (n + first_hole xs) ∷ past_hole xs
before_is n [] = let none : n ≡ n + 0 = omega arith in ap (λ m. Hole m ∷ []) none
before_is n (Used m ∷ rest) = let none : n ≡ n + 0 = omega arith in ap (λ k. Hole k ∷ Used m ∷ rest) none
before_is n (Hole m ∷ rest) = refl

-- a hole that the offset lies past stays
given_skip : (back offset : ℕ) (xs : List Block) → 0 < offset → given_in (offset + back) (gap back ++ xs) ≡ gap back ++ given_in offset xs
given_skip zero offset xs some = let here : offset + 0 ≡ offset = omega arith in rw here refl
given_skip (suc back) offset xs some =
    let n : ℕ = suc back in
    let is = gap_some (suc back) (omega arith) in
    let test : (offset + suc back == suc back) ≡ false = grind (arith, nat_tests) in
    let left : offset + suc back - suc back ≡ offset = omega arith in
    rw is (simp (test, left))

-- a hole directly before it is joined
given_join : (back n : ℕ) (xs : List Block) → given_in back (gap back ++ Used n ∷ xs) ≡ Hole (back + n + first_hole xs) ∷ past_hole xs
given_join zero n xs = before_is n xs ∙ ap (λ k. Hole (k + first_hole xs) ∷ past_hole xs) (omega arith)
given_join (suc back) n xs =
    let is = gap_some (suc back) (omega arith) in
    let test : (suc back == suc back) ≡ true = grind (arith, nat_tests) in
    let sum : suc back + (n + first_hole xs) ≡ suc back + n + first_hole xs = omega arith in
    rw is (simp test (ap (before (suc back)) (before_is n xs) ∙ ap (λ k. Hole k ∷ past_hole xs) sum))

-- the used block that starts at a target, among blocks behind a hole of `back` bytes: what stands on its left and right, and what giving it back makes
pub record IsFreed (from back target : ℕ) (blocks : List Block) (b : BlockFound) : Type 0 where
  pub left : List Block
  pub right : List Block
  pub is : gap back ++ blocks ≡ left ++ (gap b.before ++ Used b.size ∷ right)
  pub start : from + bytes_in left + b.before ≡ target + back
  pub given : given_in (target - from + back) (gap back ++ blocks) ≡ left ++ Hole (b.before + b.size + first_hole right) ∷ past_hole right

abbrev Frees : ℕ → ℕ → ℕ → List Block → BlockFound → Type 0
Frees from back target blocks b = b.used ≡ true → b.offset ≡ target → IsFreed from back target blocks b

freed_from : (from back target : ℕ) (blocks : List Block) → AreLong blocks → from ≤ target → target < from + bytes_in blocks → Frees from back target blocks (block_over from back target blocks)
freed_from from back target [] long le lt = absurd (omega arith)
freed_from from back target (Used n ∷ rest) long le lt =
    elim (cases_lt target (from + n)) [
      | inl inside ↦
          let here : nat_lt target (from + n) ≡ true = ltb-true inside in
          subst (λ z. Frees from back target (Used n ∷ rest) (if z then record { offset = from; size = n; used = true; before = back } else block_over (from + n) 0 target rest)) (sym here)
          (λ used at.
          let sum : target - from + back ≡ back = omega arith in
          record {
            left = [];
            right = rest;
            is = refl;
            start = omega arith;
            given = ap (λ o. given_in o (gap back ++ Used n ∷ rest)) sum ∙ given_join back n rest;
          })
      | inr behind ↦
          let here : nat_lt target (from + n) ≡ false = ltb-false behind in
          subst (λ z. Frees from back target (Used n ∷ rest) (if z then record { offset = from; size = n; used = true; before = back } else block_over (from + n) 0 target rest)) (sym here)
          (λ used at. used_on behind (freed_from (from + n) 0 target rest long.1 behind (omega arith) used at))
    ]
  where
    used_on : from + n ≤ target → {b : BlockFound} → IsFreed (from + n) 0 target rest b → IsFreed from back target (Used n ∷ rest) b
    used_on behind {b} on =
        let least = long.0 in
        let start = on.start in
        let first : (target - from == 0) ≡ false = grind (arith, nat_tests) in
        let rest_at : target - from - n ≡ target - (from + n) + 0 = omega arith in
        let under : given_in (target - from) (Used n ∷ rest) ≡ Used n ∷ given_in (target - (from + n) + 0) rest = simp first (ap (λ o. Used n ∷ given_in o rest) rest_at) in
        record {
          left = gap back ++ Used n ∷ on.left;
          right = on.right;
          is = ap (λ xs. gap back ++ Used n ∷ xs) on.is ∙ sym (append_assoc (gap back) (Used n ∷ on.left) (gap b.before ++ Used b.size ∷ on.right));
          start = omega (arith, bytes-append (gap back) (Used n ∷ on.left), gap_bytes back);
          given = given_skip back (target - from) (Used n ∷ rest) (omega arith) ∙ ap (λ xs. gap back ++ xs) (under ∙ ap (λ xs. Used n ∷ xs) on.given)
              ∙ sym (append_assoc (gap back) (Used n ∷ on.left) (Hole (b.before + b.size + first_hole on.right) ∷ past_hole on.right));
        }
freed_from from back target (Hole n ∷ rest) long le lt =
    elim (cases_lt target (from + n)) [
      | inl inside ↦
          let here : nat_lt target (from + n) ≡ true = ltb-true inside in
          subst (λ z. Frees from back target (Hole n ∷ rest) (if z then record { offset = from; size = n; used = false; before = back } else block_over (from + n) n target rest)) (sym here)
          (λ used at. absurd (cc))
      | inr behind ↦
          let here : nat_lt target (from + n) ≡ false = ltb-false behind in
          subst (λ z. Frees from back target (Hole n ∷ rest) (if z then record { offset = from; size = n; used = false; before = back } else block_over (from + n) n target rest)) (sym here)
          (λ used at. hole_on behind (freed_from (from + n) n target rest long.1 behind (omega arith) used at))
    ]
  where
    hole_on : from + n ≤ target → {b : BlockFound} → IsFreed (from + n) n target rest b → IsFreed from back target (Hole n ∷ rest) b
    hole_on behind {b} on =
        let least = long.0 in
        let start = on.start in
        let here : gap n ++ rest ≡ Hole n ∷ rest = ap (λ g. g ++ rest) (gap_some n (omega arith)) in
        let at : target - (from + n) + n ≡ target - from = omega arith in
        let under : given_in (target - from) (Hole n ∷ rest) ≡ on.left ++ Hole (b.before + b.size + first_hole on.right) ∷ past_hole on.right =
        sym (ap (given_in (target - from)) here) ∙ ap (λ o. given_in o (gap n ++ rest)) (sym at) ∙ on.given in
        record {
          left = gap back ++ on.left;
          right = on.right;
          is = ap (λ xs. gap back ++ xs) (sym here ∙ on.is) ∙ sym (append_assoc (gap back) on.left (gap b.before ++ Used b.size ∷ on.right));
          start = omega (arith, bytes-append (gap back) on.left, gap_bytes back);
          given = given_skip back (target - from) (Hole n ∷ rest) (omega arith) ∙ ap (λ xs. gap back ++ xs) under
              ∙ sym (append_assoc (gap back) on.left (Hole (b.before + b.size + first_hole on.right) ∷ past_hole on.right));
        }

-- of a whole chunk
pub freed : (target : ℕ) (blocks : List Block) (b : BlockFound) → AreLong blocks → Some b ≡ block_there target blocks → b.used ≡ true → b.offset ≡ target → IsFreed 0 0 target blocks b
freed target blocks b long some used at =
    let there = some_there target blocks b some in
    let is = sym there.1 in
    subst (Frees 0 0 target blocks) is (freed_from 0 0 target blocks long (omega arith) (omega (arith, there.0))) used at

-- ---- no two holes are neighbours

pub given_blocks : (offset n : ℕ) (blocks : List Block) → AreBlocks blocks → used_at offset blocks ≡ Some n → AreBlocks (given_in offset blocks)
given_blocks offset n [] are used = tt
given_blocks offset n (Used m ∷ rest) are used =
    elim (offset == 0) as (λ v. (if v then Some m else (if nat_lt offset m then None else used_at (offset - m) rest)) ≡ Some n → AreBlocks (if v then before m rest else Used m ∷ given_in (offset - m) rest)) [
      | true ↦ λ here. AreBlocks-before m rest are.0 are.1
      | false ↦ elim (nat_lt offset m) as (λ v. (if v then None else used_at (offset - m) rest) ≡ Some n → AreBlocks (Used m ∷ given_in (offset - m) rest)) [
        | true ↦ λ none. absurd (cc)
        | false ↦ λ on. (are.0, given_blocks (offset - m) n rest are.1 on)
      ]
    ] used
given_blocks offset n (Hole m ∷ rest) are used =
    elim (nat_lt offset m) as (λ v. nat_lt offset m ≡ v → (if v then None else used_at (offset - m) rest) ≡ Some n → AreBlocks (given_in offset (Hole m ∷ rest))) [
      | true ↦ λ is none. absurd (cc)
      | false ↦ λ is on. elim (offset == m) as (λ v. (offset == m) ≡ v → AreBlocks (if v then before m (given_in 0 rest) else Hole m ∷ given_in (offset - m) rest)) [
        | true ↦ λ same.
            let zero_there : offset - m ≡ 0 = grind (arith, nat_tests) in
            let parts = hole_behind m rest are in
            AreBlocks-before m (given_in 0 rest) parts.0 (given_blocks 0 n rest parts.2 (subst (λ o. used_at o rest ≡ Some n) zero_there on))
        | false ↦ λ other.
            let some : 0 < offset - m = grind (arith, nat_tests) in
            let parts = hole_behind m rest are in
            hole_before m (given_in (offset - m) rest) parts.0 (starts (offset - m) rest some parts.1) (given_blocks (offset - m) n rest parts.2 on)
      ] refl
    ] refl used
  where
    starts : (k : ℕ) (xs : List Block) → 0 < k → StartsUsed xs → StartsUsed (given_in k xs)
    starts k [] some used_first = tt
    starts k (Used j ∷ xs) some used_first = let test : (k == 0) ≡ false = grind (arith, nat_tests) in simp test tt
    starts k (Hole j ∷ xs) some used_first = absurd used_first
