-- The best hole: it is there, a new chunk's is best where no other is large enough, and giving back undoes taking.
use Rattle.std.proofs.Common.{rules, suc, ◌≡◌, ℕ, ◌+◌, ◌-◌, ◌<◌, ◌≤◌, ◌++◌, ◌==◌, true, false, cond, List, [], ◌∷◌, length, nat_lt, nat_le, Some, refl, sym, ap, subst, ◌∙◌, arith, append_assoc, set, get_or, zero}
use Rattle.std.proofs.lemmas.Bool.{ltb-true, ltb-false, false_from_ne_true}
use Rattle.std.proofs.lemmas.Bool.Decides.{nat_tests}
use Rattle.std.proofs.lemmas.Option.{none-some, same_Some, some_pair_parts}
use Rattle.std.specs.Prelude.{Option, None}
use Rattle.std.specs.List.{AllByRecursion}
use Rattle.own_model.specs.BestFit.{Spot, holes_in, holes_from, holes_of, best_hole, earlier, comes_before, block_size, cut, taken_in, before, given_in, used_at, payload_at, chunk_of}
use Rattle.own_model.proofs.ListLemmas.{all_append, all_then, all_within}
use Rattle.own_model.specs.Heap.{Heap, Block, Used, Hole, size_of, IsBlockSize, AreBlocks}
use Rattle.own_model.specs.Growth.{Shape, Growth, hole_for, shape_taken, shape_given, shape_grown, new_hole}
use Rattle.std.proofs.lemmas.List.{get_or-set_same}
use Rattle.own_model.proofs.HeapBlockLemmas.{StartUsed, hole_parts, hole_at, later, not_first}

-- a hole of a heap: it is where it says it is
pub record IsHoleOf (heap : Heap) (x : Spot) : Type 0 where
  pub within : x.chunk < length heap
  pub there : hole_at x.offset (chunk_of heap x.chunk) ≡ Some x.size

-- of two holes the one that comes first is one of them
earlier_one : (P : Spot → Type 0) (x : Spot) (o : Option Spot) → P x → ((y : Spot) → o ≡ Some y → P y) → P (earlier x o)
earlier_one P x None here there = here
earlier_one P x (Some y) here there = elim (comes_before y x) as (λ b. P (cond b y x)) [ true ↦ there y refl | false ↦ here ]

-- what holds of all holes holds of the best one, which is large enough
pub best_of : (P : Spot → Type 0) (size : ℕ) (xs : List Spot) (x : Spot) → AllByRecursion P xs → best_hole size xs ≡ Some x → P x × (size ≤ x.size)
best_of P size [] x each is = absurd (none-some x is)
best_of P size (y ∷ ys) x each is =
    elim (nat_le size y.size) as (λ b. nat_le size y.size ≡ b → cond b (Some (earlier y (best_hole size ys))) (best_hole size ys) ≡ Some x → P x × (size ≤ x.size)) [
      | true ↦ λ fits here.
          let one : Spot → Type 0 = λ z. P z × (size ≤ z.size) in
          let enough : size ≤ y.size = grind (arith, nat_tests) in
          subst one (same_Some (earlier y (best_hole size ys)) x here) (earlier_one one y (best_hole size ys) (each.0, enough) (λ z at. best_of P size ys z each.1 at))
      | false ↦ λ _ rest. best_of P size ys x each.1 rest
    ] refl is

-- a hole among blocks that stand from an offset of a chunk on
record IsIn (chunk offset : ℕ) (blocks : List Block) (x : Spot) : Type 0 where
  same : x.chunk ≡ chunk
  past : ℕ
  at : x.offset ≡ offset + past
  there : hole_at past blocks ≡ Some x.size

-- a hole further on is a hole of blocks with one before them
further : (chunk offset : ℕ) (b : Block) (rest : List Block) → IsBlockSize (size_of b) → (x : Spot) → IsIn chunk (offset + size_of b) rest x → IsIn chunk offset (b ∷ rest) x
further chunk offset (Used n) rest size x h = record {
  same = h.same;
  past = n + h.past;
  at = omega (arith, h.at);
  there = let e : n + h.past - n ≡ h.past = omega arith in let f : nat_lt (n + h.past) n ≡ false = grind (arith, nat_tests) in
      ap (λ b. cond b None (hole_at (n + h.past - n) rest)) f ∙ ap (λ k. hole_at k rest) e ∙ h.there;
}
further chunk offset (Hole n) rest size x h = record {
  same = h.same;
  past = n + h.past;
  at = omega (arith, h.at);
  there = let least = size.least in
      let e : n + h.past - n ≡ h.past = omega arith in
      let f : nat_lt (n + h.past) n ≡ false = grind (arith, nat_tests) in
      let g : (n + h.past == 0) ≡ false = grind (arith, nat_tests) in
      ap (λ b. cond b (Some n) (cond (nat_lt (n + h.past) n) None (hole_at (n + h.past - n) rest))) g
      ∙ ap (λ b. cond b None (hole_at (n + h.past - n) rest)) f ∙ ap (λ k. hole_at k rest) e ∙ h.there;
}

-- each hole that is told of blocks is one
holes_are_in : (chunk offset : ℕ) (blocks : List Block) → AreBlocks blocks → AllByRecursion (IsIn chunk offset blocks) (holes_in chunk offset blocks)
holes_are_in chunk offset [] sizes = tt
holes_are_in chunk offset (Used n ∷ rest) sizes = grind (arith, nat_tests, all_then, further, holes_are_in chunk (offset + n) rest sizes.1)
holes_are_in chunk offset (Hole n ∷ rest) sizes =
    let parts = hole_parts n rest sizes in (
      record { same = refl; past = 0; at = omega arith; there = refl },
      all_then (IsIn chunk (offset + n) rest) (IsIn chunk offset (Hole n ∷ rest)) (holes_in chunk (offset + n) rest) (further chunk offset (Hole n) rest parts.0)
          (holes_are_in chunk (offset + n) rest parts.2),
    )

-- a hole of chunks that are numbered from a number on
record IsFrom (number : ℕ) (chunks : Heap) (x : Spot) : Type 0 where
  place : ℕ
  same : x.chunk ≡ number + place
  within : place < length chunks
  there : hole_at x.offset (chunk_of chunks place) ≡ Some x.size

-- each hole that is told of chunks is one
holes_are_from : (number : ℕ) (chunks : Heap) → AllByRecursion AreBlocks chunks → AllByRecursion (IsFrom number chunks) (holes_from number chunks)
holes_are_from number [] sizes = tt
holes_are_from number (blocks ∷ rest) sizes =
    all_append (IsFrom number (blocks ∷ rest)) (holes_in number 0 blocks) (holes_from (number + 1) rest)
    (all_then (IsIn number 0 blocks) (IsFrom number (blocks ∷ rest)) (holes_in number 0 blocks)
    (λ x h. record { place = 0; same = omega (arith, h.same); within = omega arith; there = let e : x.offset ≡ h.past = omega (arith, h.at) in ap (λ k. hole_at k blocks) e ∙ h.there })
    (holes_are_in number 0 blocks sizes.0))
    (all_then (IsFrom (number + 1) rest) (IsFrom number (blocks ∷ rest)) (holes_from (number + 1) rest)
    (λ x h. record { place = suc h.place; same = omega (arith, h.same); within = omega (arith, h.within); there = h.there })
    (holes_are_from (number + 1) rest sizes.1))

-- the best hole is a hole of the heap, and large enough
pub best_is_hole : (size : ℕ) (heap : Heap) (x : Spot) → AllByRecursion AreBlocks heap → best_hole size (holes_of heap) ≡ Some x → IsHoleOf heap x × (size ≤ x.size)
best_is_hole size heap x sizes is = search (rules, best_of, all_then, hole_at, holes_are_from)

-- a list changed at a place and back is the list
set_back : {X : Type 0} (xs : List X) (i : ℕ) (y d : X) → set (set xs i y) i (get_or xs i d) ≡ xs
set_back [] i y d = refl
set_back (x ∷ xs) zero y d = refl
set_back (x ∷ xs) (suc i) y d = ap (λ ys. x ∷ ys) (set_back xs i y d)

-- ---- a new chunk

-- holes of chunks one after another
holes-append : (number : ℕ) (xs ys : Heap) → holes_from number (xs ++ ys) ≡ holes_from number xs ++ holes_from (number + length xs) ys
holes-append number [] ys = ap (λ n. holes_from n ys) (omega arith)
holes-append number (x ∷ xs) ys = grind (arith, nat_tests, append_assoc, holes-append (number + 1) xs ys)

-- the best of holes, where none of the first is large enough
best-append : (size : ℕ) (xs ys : List Spot) → best_hole size xs ≡ None → best_hole size (xs ++ ys) ≡ best_hole size ys
best-append size [] ys none = refl
best-append size (x ∷ xs) ys none =
    elim (nat_le size x.size) as (λ b. cond b (Some (earlier x (best_hole size xs))) (best_hole size xs) ≡ None → cond b (Some (earlier x (best_hole size (xs ++ ys)))) (best_hole size (xs ++ ys)) ≡ best_hole size ys) [
      | true ↦ λ some. absurd (none-some (earlier x (best_hole size xs)) (sym some))
      | false ↦ λ rest. best-append size xs ys rest
    ] none

-- where no hole is large enough, a new chunk's is the best
pub new_hole_best : (n : ℕ) (shape : Shape) (growth : Growth) → hole_for n shape ≡ None → block_size n ≤ growth.bytes → hole_for n (shape_grown growth shape) ≡ Some (new_hole growth shape)
new_hole_best n shape growth none fits = grind (arith, nat_tests, holes-append, best-append)

-- ---- giving back undoes taking

-- a hole before what doesn't start with one stays as it is
before-used : (n : ℕ) (rest : List Block) → StartUsed rest → before n rest ≡ Hole n ∷ rest
before-used n [] first = refl
before-used n (Used m ∷ rest) first = refl
before-used n (Hole m ∷ rest) first = absurd first

-- what doesn't start with a hole has none first
no_hole_first : (rest : List Block) (h : ℕ) → AreBlocks rest → StartUsed rest → ¬ (hole_at 0 rest ≡ Some h)
no_hole_first [] h sizes first at = none-some h at
no_hole_first (Used n ∷ rest) h sizes first at = grind (arith, nat_tests, later, hole_at)
no_hole_first (Hole n ∷ rest) h sizes first at = absurd first

-- a hole that was cut is whole again
given-cut : (size n : ℕ) (rest : List Block) → StartUsed rest → given_in 0 (cut size n ++ rest) ≡ Hole n ∷ rest
given-cut size n rest first = search (rules, before-used, ltb-false)

-- so is a hole that was taken
given-taken : (size h offset : ℕ) (blocks : List Block) → AreBlocks blocks → hole_at offset blocks ≡ Some h → given_in offset (taken_in size offset blocks) ≡ blocks
given-taken size h offset [] sizes at = refl
given-taken size h offset (Used n ∷ rest) sizes at =
    let far = later offset n (hole_at offset (Used n ∷ rest)) (hole_at (offset - n) rest) h refl at in
    let other = not_first offset n sizes.0 far.0 in
    ap (λ t. given_in offset (cond t (cut size n ++ rest) (Used n ∷ taken_in size (offset - n) rest))) other
    ∙ ap (λ t. cond t (before n (taken_in size (offset - n) rest)) (Used n ∷ given_in (offset - n) (taken_in size (offset - n) rest))) other
    ∙ ap (λ bs. Used n ∷ bs) (given-taken size h (offset - n) rest sizes.1 far.1)
given-taken size h offset (Hole n ∷ rest) sizes at =
    let parts = hole_parts n rest sizes in
    elim (offset == 0) as (λ t. (offset == 0) ≡ t → cond t (Some n) (cond (nat_lt offset n) None (hole_at (offset - n) rest)) ≡ Some h →
    given_in offset (cond t (cut size n ++ rest) (Hole n ∷ taken_in size (offset - n) rest)) ≡ Hole n ∷ rest) [
      | true ↦ λ first _. let zero : offset ≡ 0 = grind (arith, nat_tests) in ap (λ o. given_in o (cut size n ++ rest)) zero ∙ given-cut size n rest parts.1
      | false ↦ λ _ is.
          let far = later offset n (cond (nat_lt offset n) None (hole_at (offset - n) rest)) (hole_at (offset - n) rest) h refl is in
          let other : (offset == n) ≡ false = false_from_ne_true (offset == n) (λ same.
          let back : offset - n ≡ 0 = grind (arith, nat_tests) in
          no_hole_first rest h parts.2 parts.1 (ap (λ o. hole_at o rest) (sym back) ∙ far.1)) in
          ap (λ t. cond t (before n (given_in 0 (taken_in size (offset - n) rest))) (Hole n ∷ given_in (offset - n) (taken_in size (offset - n) rest))) other
          ∙ ap (λ bs. Hole n ∷ bs) (given-taken size h (offset - n) rest parts.2 far.1)
    ] refl at

-- a block given back as it was taken leaves the heap as it was
pub giving_undoes : (n : ℕ) (shape : Shape) (hole : Spot) → AllByRecursion AreBlocks shape.chunks → hole_for n shape ≡ Some hole → shape_given hole.chunk hole.offset (shape_taken n hole shape) ≡ shape
giving_undoes n shape hole sizes best =
    let is = (best_is_hole (block_size n) shape.chunks hole sizes best).0 in
    let blocks = chunk_of shape.chunks hole.chunk in
    let taken = taken_in (block_size n) hole.offset blocks in
    let back : given_in hole.offset (chunk_of (set shape.chunks hole.chunk taken) hole.chunk) ≡ blocks
    = ap (given_in hole.offset) (get_or-set_same shape.chunks hole.chunk taken [] is.within)
    ∙ given-taken (block_size n) hole.size hole.offset blocks (all_within AreBlocks shape.chunks hole.chunk [] sizes is.within) is.there in
    let whole : set (set shape.chunks hole.chunk taken) hole.chunk (given_in hole.offset (chunk_of (set shape.chunks hole.chunk taken) hole.chunk)) ≡ shape.chunks
    = ap (set (set shape.chunks hole.chunk taken) hole.chunk) back ∙ set_back shape.chunks hole.chunk taken [] in
    ap (λ c. record shape { chunks = c }) whole

-- ---- used blocks lie apart

-- a used block ends where a later one starts, or before
pub used_apart : (x y n m : ℕ) (blocks : List Block) → AreBlocks blocks → used_at x blocks ≡ Some n → used_at y blocks ≡ Some m → x < y → x + n ≤ y
used_apart x y n m [] sizes first second less = absurd (none-some n first)
used_apart x y n m (Used k ∷ rest) sizes first second less =
    let other : (y == 0) ≡ false = grind (arith, nat_tests) in
    let second' : cond (nat_lt y k) None (used_at (y - k) rest) ≡ Some m = sym (ap (λ b. cond b (Some k) (cond (nat_lt y k) None (used_at (y - k) rest))) other) ∙ second in
    let behind = later y k (cond (nat_lt y k) None (used_at (y - k) rest)) (used_at (y - k) rest) m refl second' in
    elim (x == 0) as (λ t. (x == 0) ≡ t → cond t (Some k) (cond (nat_lt x k) None (used_at (x - k) rest)) ≡ Some n → x + n ≤ y) [
      | true ↦ λ zero is. let same : k ≡ n = same_Some k n is in let e : x ≡ 0 = grind (arith, nat_tests) in omega (arith, same, e, behind.0)
      | false ↦ λ _ is.
          let far = later x k (cond (nat_lt x k) None (used_at (x - k) rest)) (used_at (x - k) rest) n refl is in
          let apart = used_apart (x - k) (y - k) n m rest sizes.1 far.1 behind.1 (omega (arith, less, far.0)) in
          omega (arith, apart, far.0, behind.0)
    ] refl first
used_apart x y n m (Hole k ∷ rest) sizes first second less =
    let parts = hole_parts k rest sizes in
    let far = later x k (used_at x (Hole k ∷ rest)) (used_at (x - k) rest) n refl first in
    let behind = later y k (used_at y (Hole k ∷ rest)) (used_at (y - k) rest) m refl second in
    let apart = used_apart (x - k) (y - k) n m rest parts.2 far.1 behind.1 (omega (arith, less, far.0)) in
    omega (arith, apart, far.0, behind.0)

-- where a hole starts no used block does
pub hole_unused : (offset h : ℕ) (blocks : List Block) → AreBlocks blocks → hole_at offset blocks ≡ Some h → used_at offset blocks ≡ None
hole_unused offset h [] sizes at = refl
hole_unused offset h (Used n ∷ rest) sizes at =
    let far = later offset n (hole_at offset (Used n ∷ rest)) (hole_at (offset - n) rest) h refl at in
    ap (λ t. cond t (Some n) (cond (nat_lt offset n) None (used_at (offset - n) rest))) (not_first offset n sizes.0 far.0)
    ∙ elim (nat_lt offset n) as (λ b. cond b None (used_at (offset - n) rest) ≡ None) [ true ↦ refl | false ↦ hole_unused (offset - n) h rest sizes.1 far.1 ]
hole_unused offset h (Hole n ∷ rest) sizes at =
    let parts = hole_parts n rest sizes in
    let least = parts.0.least in
    elim (offset == 0) as (λ t. (offset == 0) ≡ t → cond t (Some n) (cond (nat_lt offset n) None (hole_at (offset - n) rest)) ≡ Some h → cond (nat_lt offset n) None (used_at (offset - n) rest) ≡ None) [
      | true ↦ λ zero _. let near : nat_lt offset n ≡ true = grind (arith, nat_tests) in ap (λ b. cond b None (used_at (offset - n) rest)) near
      | false ↦ λ _ is.
          let far = later offset n (cond (nat_lt offset n) None (hole_at (offset - n) rest)) (hole_at (offset - n) rest) h refl is in
          elim (nat_lt offset n) as (λ b. cond b None (used_at (offset - n) rest) ≡ None) [ true ↦ refl | false ↦ hole_unused (offset - n) h rest parts.2 far.1 ]
    ] refl at

-- ---- whose payload has an offset

-- a used block behind one of n bytes
used_behind : (b : Block) (rest : List Block) (x : ℕ) → IsBlockSize (size_of b) → used_at (size_of b + x) (b ∷ rest) ≡ used_at x rest
used_behind (Used n) rest x size =
    let least = size.least in
    let past : (n + x == 0) ≡ false = grind (arith, nat_tests) in
    let beyond : nat_lt (n + x) n ≡ false = grind (arith, nat_tests) in
    let back : n + x - n ≡ x = omega arith in
    ap (λ t. cond t (Some n) (cond (nat_lt (n + x) n) None (used_at (n + x - n) rest))) past ∙ ap (λ t. cond t None (used_at (n + x - n) rest)) beyond ∙ ap (λ k. used_at k rest) back
used_behind (Hole n) rest x size =
    let beyond : nat_lt (n + x) n ≡ false = grind (arith, nat_tests) in
    let back : n + x - n ≡ x = omega arith in
    ap (λ t. cond t None (used_at (n + x - n) rest)) beyond ∙ ap (λ k. used_at k rest) back

-- a block is used, from x on, and its payload has an offset
pub record HasOffset (blocks : List Block) (offset x n : ℕ) : Type 0 where
  pub used : used_at x blocks ≡ Some n
  pub low : x + 16 ≤ offset
  pub high : offset < x + n

-- the same with a block before
behind_one : (b : Block) (rest : List Block) (offset x n : ℕ) → IsBlockSize (size_of b) → size_of b ≤ offset → HasOffset rest (offset - size_of b) x n → HasOffset (b ∷ rest) offset (size_of b + x) n
behind_one b rest offset x n size far h = search rules

-- the block that is told of an offset has it in its payload
pub payload_has : (from offset : ℕ) (blocks : List Block) (at : ℕ × ℕ) → AreBlocks blocks → payload_at from offset blocks ≡ Some at → (x : ℕ) × (at.0 ≡ from + x) × HasOffset blocks offset x at.1
payload_has from offset [] at sizes is = absurd (none-some at is)
payload_has from offset (Used n ∷ rest) at sizes is =
    elim (nat_lt offset n) as (λ b. nat_lt offset n ≡ b → cond b (cond (nat_lt offset 16) None (Some (from, n))) (payload_at (from + n) (offset - n) rest) ≡ Some at → (x : ℕ) × (at.0 ≡ from + x) × HasOffset (Used n ∷ rest) offset x at.1) [
      | true ↦ λ near here.
          elim (nat_lt offset 16) as (λ b. nat_lt offset 16 ≡ b → cond b None (Some (from, n)) ≡ Some at → (x : ℕ) × (at.0 ≡ from + x) × HasOffset (Used n ∷ rest) offset x at.1) [
            | true ↦ λ _ none. absurd (none-some at none)
            | false ↦ λ past is.
                let parts = some_pair_parts from at.0 n at.1 is in
                let size : n ≡ at.1 = parts.1 in
                (0, omega (arith, parts.0), record { used = ap (λ m. Some m) size; low = omega (arith, ltb-false offset 16 past); high = omega (arith, ltb-true offset n near, size) })
          ] refl here
      | false ↦ λ far rest_is.
          let beyond = ltb-false offset n far in
          let found = payload_has (from + n) (offset - n) rest at sizes.1 rest_is in
          (n + found.0, omega (arith, found.1), behind_one (Used n) rest offset found.0 at.1 sizes.0 beyond found.2)
    ] refl is
payload_has from offset (Hole n ∷ rest) at sizes is =
    let parts = hole_parts n rest sizes in
    elim (nat_lt offset n) as (λ b. nat_lt offset n ≡ b → cond b None (payload_at (from + n) (offset - n) rest) ≡ Some at → (x : ℕ) × (at.0 ≡ from + x) × HasOffset (Hole n ∷ rest) offset x at.1) [
      | true ↦ λ _ none. absurd (none-some at none)
      | false ↦ λ far rest_is.
          let beyond = ltb-false offset n far in
          let found = payload_has (from + n) (offset - n) rest at parts.2 rest_is in
          (n + found.0, omega (arith, found.1), behind_one (Hole n) rest offset found.0 at.1 parts.0 beyond found.2)
    ] refl is

-- and the block whose payload has it is told
pub payload_told : (from offset x n : ℕ) (blocks : List Block) → AreBlocks blocks → HasOffset blocks offset x n → payload_at from offset blocks ≡ Some (from + x, n)
payload_told from offset x n [] sizes h = absurd (none-some n h.used)
payload_told from offset x n (Used m ∷ rest) sizes h =
    let low = h.low in
    let high = h.high in
    elim (x == 0) as (λ t. (x == 0) ≡ t → cond t (Some m) (cond (nat_lt x m) None (used_at (x - m) rest)) ≡ Some n →
    cond (nat_lt offset m) (cond (nat_lt offset 16) None (Some (from, m))) (payload_at (from + m) (offset - m) rest) ≡ Some (from + x, n)) [
      | true ↦ λ first is.
          let same : m ≡ n = same_Some m n is in
          let zero : x ≡ 0 = grind (arith, nat_tests) in
          let near : nat_lt offset m ≡ true = grind (arith, nat_tests) in
          let behind : nat_lt offset 16 ≡ false = grind (arith, nat_tests) in
          let start : from ≡ from + x = omega arith in
          let told : payload_at from offset (Used m ∷ rest) ≡ Some (from, m)
          = ap (λ t. cond t (cond (nat_lt offset 16) None (Some (from, m))) (payload_at (from + m) (offset - m) rest)) near ∙ ap (λ t. cond t None (Some (from, m))) behind in
          told ∙ (λ i. Some (start i, same i))
      | false ↦ λ _ is.
          let far = later x m (cond (nat_lt x m) None (used_at (x - m) rest)) (used_at (x - m) rest) n refl is in
          let past = far.0 in
          let beyond : nat_lt offset m ≡ false = grind (arith, nat_tests) in
          let start : from + m + (x - m) ≡ from + x = omega arith in
          ap (λ t. cond t (cond (nat_lt offset 16) None (Some (from, m))) (payload_at (from + m) (offset - m) rest)) beyond
          ∙ payload_told (from + m) (offset - m) (x - m) n rest sizes.1 (record { used = far.1; low = omega (arith, low, past); high = omega (arith, high, past) })
          ∙ ap (λ k. Some (k, n)) start
    ] refl h.used
payload_told from offset x n (Hole m ∷ rest) sizes h =
    let parts = hole_parts m rest sizes in
    let low = h.low in
    let high = h.high in
    let far = later x m (used_at x (Hole m ∷ rest)) (used_at (x - m) rest) n refl h.used in
    let past = far.0 in
    let beyond : nat_lt offset m ≡ false = grind (arith, nat_tests) in
    let start : from + m + (x - m) ≡ from + x = omega arith in
    ap (λ t. cond t None (payload_at (from + m) (offset - m) rest)) beyond
    ∙ payload_told (from + m) (offset - m) (x - m) n rest parts.2 (record { used = far.1; low = omega (arith, low, past); high = omega (arith, high, past) })
    ∙ ap (λ k. Some (k, n)) start
