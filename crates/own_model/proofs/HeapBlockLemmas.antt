-- What taking a hole and giving a block back do to the blocks of a chunk.
use Rattle.std.proofs.Common.{rules, ◌≡◌, ℕ, ◌+◌, ◌-◌, ◌<◌, ◌≤◌, ◌++◌, ◌==◌, true, false, cond, eqb, List, [], ◌∷◌, nat_lt, Some, refl, sym, ap, subst, ◌∙◌, arith}
use Rattle.std.proofs.lemmas.Bool.{ltb-true, ltb-false}
use Rattle.std.proofs.lemmas.Bool.Decides.{nat_tests}
use Rattle.std.proofs.lemmas.Option.{none-some, same_Some}
use Rattle.std.specs.Prelude.{Option, None}
use Rattle.own_model.specs.BestFit.{block_size, cut, taken_in, before, given_in, used_at}
use Rattle.own_model.specs.Heap.{Block, Used, Hole, size_of, bytes_in, least_block, IsBlockSize, AreBlocks}
use Rattle.own_model.specs.HeapStep.{size_taken}

-- ---- bytes

-- the bytes of blocks one after another
pub bytes-append : (xs ys : List Block) → bytes_in (xs ++ ys) ≡ bytes_in xs + bytes_in ys
bytes-append [] ys = omega arith
bytes-append (x ∷ xs) ys = omega (arith, bytes-append xs ys)

-- a hole that is cut keeps its bytes
bytes-cut : (size n : ℕ) → bytes_in (cut size n) ≡ n
bytes-cut size n = search (rules, ltb-false)

-- taking leaves the bytes of a chunk
pub bytes-taken : (size offset : ℕ) (blocks : List Block) → bytes_in (taken_in size offset blocks) ≡ bytes_in blocks
bytes-taken size offset [] = refl
bytes-taken size offset (b ∷ rest) = grind (arith, nat_tests, bytes-append, bytes-cut, bytes-taken size (offset - size_of b) rest)

-- so does joining
bytes-before : (n : ℕ) (rest : List Block) → bytes_in (before n rest) ≡ n + bytes_in rest
bytes-before n [] = refl
bytes-before n (Used m ∷ rest) = refl
bytes-before n (Hole m ∷ rest) = omega arith

-- and giving back
pub bytes-given : (offset : ℕ) (blocks : List Block) → bytes_in (given_in offset blocks) ≡ bytes_in blocks
bytes-given offset [] = refl
bytes-given offset (Used n ∷ rest) = grind (arith, nat_tests, bytes-before, bytes-given (offset - n) rest)
bytes-given offset (Hole n ∷ rest) = grind (arith, nat_tests, bytes-before, bytes-given 0 rest, bytes-given (offset - n) rest)

-- ---- sizes

-- the first of some blocks isn't a hole
abbrev pub StartUsed : List Block → Type 0
StartUsed [] = Unit {0}
StartUsed (Used n ∷ rest) = Unit {0}
StartUsed (Hole n ∷ rest) = ⊥

-- a hole before blocks
hole_first : (n : ℕ) (rest : List Block) → IsBlockSize n → StartUsed rest → AreBlocks rest → AreBlocks (Hole n ∷ rest)
hole_first n [] size first h = size
hole_first n (Used m ∷ rest) size first h = (size, h)
hole_first n (Hole m ∷ rest) size first h = absurd first

-- and back
pub hole_parts : (n : ℕ) (rest : List Block) → AreBlocks (Hole n ∷ rest) → IsBlockSize n × StartUsed rest × AreBlocks rest
hole_parts n [] h = (h, tt, tt)
hole_parts n (Used m ∷ rest) h = (h.0, tt, h.1)
hole_parts n (Hole m ∷ rest) h = absurd h

-- the sizes of two holes together are one
both_sizes : (n m : ℕ) → IsBlockSize n → IsBlockSize m → IsBlockSize (n + m)
both_sizes n m x y = record { least = omega (arith, x.least); even = omega (arith, x.even, y.even) }

-- a hole joined with blocks leaves blocks
pub AreBlocks-before : (n : ℕ) (rest : List Block) → IsBlockSize n → AreBlocks rest → AreBlocks (before n rest)
AreBlocks-before n [] size h = size
AreBlocks-before n (Used m ∷ rest) size h = (size, h)
AreBlocks-before n (Hole m ∷ rest) size h = grind (arith, nat_tests, hole_parts m rest h)

-- the size of the hole that starts at an offset
abbrev pub hole_at : ℕ → List Block → Option ℕ
hole_at offset [] = None
hole_at offset (Used n ∷ rest) = cond (nat_lt offset n) None (hole_at (offset - n) rest)
hole_at offset (Hole n ∷ rest) = cond (offset == 0) (Some n) (cond (nat_lt offset n) None (hole_at (offset - n) rest))

-- where a block starts that is before an offset, it starts before the offset
pub later : (offset n : ℕ) (o p : Option ℕ) (x : ℕ) → o ≡ cond (nat_lt offset n) None p → o ≡ Some x → (n ≤ offset) × (p ≡ Some x)
later offset n o p x is there = search (rules, none-some, ltb-false)

-- ---- which used blocks there are

module _ (y : ℕ) where
  -- what is used behind a block of n bytes
  abbrev behind : ℕ → List Block → Option ℕ
  behind n rest = cond (nat_lt y n) None (used_at (y - n) rest)

  -- behind two blocks
  behind_both : (n m : ℕ) (rest : List Block) → cond (nat_lt y (n + m)) None (used_at (y - (n + m)) rest) ≡ cond (nat_lt y n) None (cond (nat_lt (y - n) m) None (used_at (y - n - m) rest))
  behind_both n m rest = grind (arith, nat_tests)

  -- a hole that is joined hides nothing
  used-before : (n : ℕ) (rest : List Block) → used_at y (before n rest) ≡ used_at y (Hole n ∷ rest)
  used-before n [] = refl
  used-before n (Used m ∷ rest) = refl
  used-before n (Hole m ∷ rest) = behind_both n m rest

  -- a hole that is cut is a used block and nothing else
  used-cut : (size n : ℕ) (rest : List Block) → 0 < n → used_at y (cut size n ++ rest) ≡ cond (eqb y 0) (Some (size_taken size n)) (used_at y (Hole n ∷ rest))
  used-cut size n rest some = elim (nat_lt (n - size) least_block) as (λ b. nat_lt (n - size) least_block ≡ b →
      used_at y (cond b (Used n ∷ []) (Used size ∷ Hole (n - size) ∷ []) ++ rest) ≡ cond (eqb y 0) (Some (cond b n size)) (used_at y (Hole n ∷ rest))) [
        | true ↦ λ _. grind (arith, nat_tests)
        | false ↦ λ h.
            let far = ltb-false (n - size) least_block h in
            let e : size + (n - size) ≡ n = omega arith in
            let two = behind_both size (n - size) rest in
            let two' : cond (nat_lt y n) None (used_at (y - n) rest) ≡ cond (nat_lt y size) None (cond (nat_lt (y - size) (n - size)) None (used_at (y - size - (n - size)) rest)) = rw e at two in
            ap (cond (eqb y 0) (Some size)) (sym two')
      ] refl

-- a choice by a number's place, with a block of n bytes before both numbers
moved : {X : Type 0} (y offset n : ℕ) (a : X) (none p q : X) → 0 < n → n ≤ offset → p ≡ cond (eqb (y - n) (offset - n)) a q → cond (nat_lt y n) none p ≡ cond (eqb y offset) a (cond (nat_lt y n) none q)
moved y offset n a none p q some far is = search (rules, ltb-true, ltb-false)

-- blocks without the first one
pub tail_blocks : (b : Block) (rest : List Block) → AreBlocks (b ∷ rest) → IsBlockSize (size_of b) × AreBlocks rest
tail_blocks (Used n) rest h = h
tail_blocks (Hole n) rest h = let parts = hole_parts n rest h in (parts.0, parts.2)

-- no block starts in the first one of two
pub not_first : (offset n : ℕ) → IsBlockSize n → n ≤ offset → (offset == 0) ≡ false
not_first offset n size far = let least = size.least in grind (arith, nat_tests)

-- the same of a used block, which starts the blocks
moved_used : (y offset n : ℕ) (a p q : Option ℕ) → 0 < n → n ≤ offset → p ≡ cond (eqb (y - n) (offset - n)) a q →
    cond (y == 0) (Some n) (cond (nat_lt y n) None p) ≡ cond (eqb y offset) a (cond (y == 0) (Some n) (cond (nat_lt y n) None q))
moved_used y offset n a p q some far is = search (rules, moved)

-- after a hole is taken, the block that took it is used, and all that were
pub used-taken : (size h y offset : ℕ) (blocks : List Block) → AreBlocks blocks → hole_at offset blocks ≡ Some h →
    used_at y (taken_in size offset blocks) ≡ cond (eqb y offset) (Some (size_taken size h)) (used_at y blocks)
used-taken size h y offset [] sizes at = absurd (none-some h at)
used-taken size h y offset (Used n ∷ rest) sizes at =
    let far = later offset n (hole_at offset (Used n ∷ rest)) (hole_at (offset - n) rest) h refl at in
    let least = sizes.0.least in
    ap (λ t. used_at y (cond t (cut size n ++ rest) (Used n ∷ taken_in size (offset - n) rest))) (not_first offset n sizes.0 far.0)
    ∙ moved_used y offset n (Some (size_taken size h)) (used_at (y - n) (taken_in size (offset - n) rest)) (used_at (y - n) rest) (omega arith) far.0
    (used-taken size h (y - n) (offset - n) rest sizes.1 far.1)
used-taken size h y offset (Hole n ∷ rest) sizes at =
    let parts = hole_parts n rest sizes in
    let least = parts.0.least in
    elim (offset == 0) as (λ t. (offset == 0) ≡ t → cond t (Some n) (cond (nat_lt offset n) None (hole_at (offset - n) rest)) ≡ Some h →
    used_at y (cond t (cut size n ++ rest) (Hole n ∷ taken_in size (offset - n) rest)) ≡ cond (eqb y offset) (Some (size_taken size h)) (used_at y (Hole n ∷ rest))) [
      | true ↦ λ first is.
          let zero : 0 ≡ offset = grind (arith, nat_tests) in
          let same : n ≡ h = same_Some n h is in
          subst (λ k. used_at y (cut size n ++ rest) ≡ cond (eqb y k) (Some (size_taken size h)) (used_at y (Hole n ∷ rest))) zero
          (subst (λ k. used_at y (cut size n ++ rest) ≡ cond (eqb y 0) (Some (size_taken size k)) (used_at y (Hole n ∷ rest))) same (used-cut y size n rest (omega arith)))
      | false ↦ λ _ is.
          let far = later offset n (cond (nat_lt offset n) None (hole_at (offset - n) rest)) (hole_at (offset - n) rest) h refl is in
          moved y offset n (Some (size_taken size h)) None (used_at (y - n) (taken_in size (offset - n) rest)) (used_at (y - n) rest) (omega arith) far.0
          (used-taken size h (y - n) (offset - n) rest parts.2 far.1)
    ] refl at

-- after a block is given back, it isn't used, and all others are that were
pub used-given : (n y offset : ℕ) (blocks : List Block) → AreBlocks blocks → used_at offset blocks ≡ Some n →
    used_at y (given_in offset blocks) ≡ cond (eqb y offset) None (used_at y blocks)
used-given n y offset [] sizes at = absurd (none-some n at)
used-given n y offset (Used m ∷ rest) sizes at =
    let least = sizes.0.least in
    elim (offset == 0) as (λ t. (offset == 0) ≡ t → cond t (Some m) (cond (nat_lt offset m) None (used_at (offset - m) rest)) ≡ Some n →
    used_at y (cond t (before m rest) (Used m ∷ given_in (offset - m) rest)) ≡ cond (eqb y offset) None (used_at y (Used m ∷ rest))) [
      | true ↦ λ first is.
          let zero : 0 ≡ offset = grind (arith, nat_tests) in
          subst (λ k. used_at y (before m rest) ≡ cond (eqb y k) None (used_at y (Used m ∷ rest))) zero (used-before y m rest ∙ grind (arith, nat_tests))
      | false ↦ λ _ is.
          let far = later offset m (cond (nat_lt offset m) None (used_at (offset - m) rest)) (used_at (offset - m) rest) n refl is in
          moved_used y offset m None (used_at (y - m) (given_in (offset - m) rest)) (used_at (y - m) rest) (omega arith) far.0
          (used-given n (y - m) (offset - m) rest sizes.1 far.1)
    ] refl at
used-given n y offset (Hole m ∷ rest) sizes at =
    let parts = hole_parts m rest sizes in
    let least = parts.0.least in
    let far = later offset m (used_at offset (Hole m ∷ rest)) (used_at (offset - m) rest) n refl at in
    let whole = moved y offset m None None (used_at (y - m) (given_in (offset - m) rest)) (used_at (y - m) rest) (omega arith) far.0
    (used-given n (y - m) (offset - m) rest parts.2 far.1) in
    elim (offset == m) as (λ t. (offset == m) ≡ t → used_at y (cond t (before m (given_in 0 rest)) (Hole m ∷ given_in (offset - m) rest)) ≡ cond (eqb y offset) None (used_at y (Hole m ∷ rest))) [
      | true ↦ λ same. let e : 0 ≡ offset - m = grind (arith, nat_tests) in
          used-before y m (given_in 0 rest) ∙ ap (λ k. used_at y (Hole m ∷ given_in k rest)) e ∙ whole
      | false ↦ λ _. whole
    ] refl

-- ---- sizes after a change

-- a hole that is cut leaves sizes that blocks can have
AreBlocks-cut : (size n : ℕ) (rest : List Block) → IsBlockSize size → IsBlockSize n → size ≤ n → StartUsed rest → AreBlocks rest → AreBlocks (cut size n ++ rest)
AreBlocks-cut size n rest one all fits first h = search (rules, ltb-false, hole_first)

-- taking leaves no hole first where there was none
StartUsed-taken : (size offset h : ℕ) (blocks : List Block) → AreBlocks blocks → hole_at offset blocks ≡ Some h → StartUsed blocks → StartUsed (taken_in size offset blocks)
StartUsed-taken size offset h [] sizes at first = first
StartUsed-taken size offset h (Used n ∷ rest) sizes at first = grind (arith, nat_tests, later, not_first)
StartUsed-taken size offset h (Hole n ∷ rest) sizes at first = absurd first

-- after a hole is taken, blocks are blocks
pub AreBlocks-taken : (size h offset : ℕ) (blocks : List Block) → AreBlocks blocks → hole_at offset blocks ≡ Some h → IsBlockSize size → size ≤ h → AreBlocks (taken_in size offset blocks)
AreBlocks-taken size h offset [] sizes at one fits = sizes
AreBlocks-taken size h offset (Used n ∷ rest) sizes at one fits =
    let far = later offset n (hole_at offset (Used n ∷ rest)) (hole_at (offset - n) rest) h refl at in
    subst (λ t. AreBlocks (cond t (cut size n ++ rest) (Used n ∷ taken_in size (offset - n) rest))) (sym (not_first offset n sizes.0 far.0))
    (sizes.0, AreBlocks-taken size h (offset - n) rest sizes.1 far.1 one fits)
AreBlocks-taken size h offset (Hole n ∷ rest) sizes at one fits =
    let parts = hole_parts n rest sizes in
    elim (offset == 0) as (λ t. cond t (Some n) (cond (nat_lt offset n) None (hole_at (offset - n) rest)) ≡ Some h →
    AreBlocks (cond t (cut size n ++ rest) (Hole n ∷ taken_in size (offset - n) rest))) [
      | true ↦ λ is. AreBlocks-cut size n rest one parts.0 (subst (λ k. size ≤ k) (sym (same_Some n h is)) fits) parts.1 parts.2
      | false ↦ λ is.
          let far = later offset n (cond (nat_lt offset n) None (hole_at (offset - n) rest)) (hole_at (offset - n) rest) h refl is in
          hole_first n (taken_in size (offset - n) rest) parts.0 (StartUsed-taken size (offset - n) h rest parts.2 far.1 parts.1)
          (AreBlocks-taken size h (offset - n) rest parts.2 far.1 one fits)
    ] at

-- giving back further on leaves no hole first where there was none
StartUsed-given : (offset n : ℕ) (rest : List Block) → (offset == n) ≡ false → n ≤ offset → StartUsed rest → StartUsed (given_in (offset - n) rest)
StartUsed-given offset n [] other past first = first
StartUsed-given offset n (Used m ∷ rest) other past first = grind (arith, nat_tests)
StartUsed-given offset n (Hole m ∷ rest) other past first = absurd first

-- after a block is given back, blocks are blocks
pub AreBlocks-given : (n offset : ℕ) (blocks : List Block) → AreBlocks blocks → used_at offset blocks ≡ Some n → AreBlocks (given_in offset blocks)
AreBlocks-given n offset [] sizes at = sizes
AreBlocks-given n offset (Used m ∷ rest) sizes at =
    elim (offset == 0) as (λ t. cond t (Some m) (cond (nat_lt offset m) None (used_at (offset - m) rest)) ≡ Some n →
    AreBlocks (cond t (before m rest) (Used m ∷ given_in (offset - m) rest))) [
      | true ↦ λ _. AreBlocks-before m rest sizes.0 sizes.1
      | false ↦ λ is.
          let far = later offset m (cond (nat_lt offset m) None (used_at (offset - m) rest)) (used_at (offset - m) rest) n refl is in
          (sizes.0, AreBlocks-given n (offset - m) rest sizes.1 far.1)
    ] at
AreBlocks-given n offset (Hole m ∷ rest) sizes at =
    let parts = hole_parts m rest sizes in
    let far = later offset m (used_at offset (Hole m ∷ rest)) (used_at (offset - m) rest) n refl at in
    let after = AreBlocks-given n (offset - m) rest parts.2 far.1 in
    elim (offset == m) as (λ t. (offset == m) ≡ t → AreBlocks (cond t (before m (given_in 0 rest)) (Hole m ∷ given_in (offset - m) rest))) [
      | true ↦ λ same. let e : offset - m ≡ 0 = grind (arith, nat_tests) in AreBlocks-before m (given_in 0 rest) parts.0 (subst (λ k. AreBlocks (given_in k rest)) e after)
      | false ↦ λ other. hole_first m (given_in (offset - m) rest) parts.0 (StartUsed-given offset m rest other far.0 parts.1) after
    ] refl

-- a used block lies within its chunk, and has a block's size
pub used_within : (offset n : ℕ) (blocks : List Block) → AreBlocks blocks → used_at offset blocks ≡ Some n → IsBlockSize n × (offset + n ≤ bytes_in blocks)
used_within offset n [] sizes at = absurd (none-some n at)
used_within offset n (Used m ∷ rest) sizes at =
    elim (offset == 0) as (λ t. (offset == 0) ≡ t → cond t (Some m) (cond (nat_lt offset m) None (used_at (offset - m) rest)) ≡ Some n → IsBlockSize n × (offset + n ≤ m + bytes_in rest)) [
      | true ↦ λ first is. let same : m ≡ n = same_Some m n is in (subst IsBlockSize same sizes.0, grind (arith, nat_tests))
      | false ↦ λ _ is.
          let far = later offset m (cond (nat_lt offset m) None (used_at (offset - m) rest)) (used_at (offset - m) rest) n refl is in
          let within = used_within (offset - m) n rest sizes.1 far.1 in
          (within.0, omega (arith, within.1, far.0))
    ] refl at
used_within offset n (Hole m ∷ rest) sizes at =
    let parts = hole_parts m rest sizes in
    let far = later offset m (used_at offset (Hole m ∷ rest)) (used_at (offset - m) rest) n refl at in
    let within = used_within (offset - m) n rest parts.2 far.1 in
    (within.0, omega (arith, within.1, far.0))

-- so does a hole
pub hole_within : (offset n : ℕ) (blocks : List Block) → AreBlocks blocks → hole_at offset blocks ≡ Some n → IsBlockSize n × (offset + n ≤ bytes_in blocks)
hole_within offset n [] sizes at = absurd (none-some n at)
hole_within offset n (Used m ∷ rest) sizes at =
    let far = later offset m (hole_at offset (Used m ∷ rest)) (hole_at (offset - m) rest) n refl at in
    let within = hole_within (offset - m) n rest sizes.1 far.1 in
    (within.0, omega (arith, within.1, far.0))
hole_within offset n (Hole m ∷ rest) sizes at =
    let parts = hole_parts m rest sizes in
    elim (offset == 0) as (λ t. (offset == 0) ≡ t → cond t (Some m) (cond (nat_lt offset m) None (hole_at (offset - m) rest)) ≡ Some n → IsBlockSize n × (offset + n ≤ m + bytes_in rest)) [
      | true ↦ λ first is. let same : m ≡ n = same_Some m n is in (subst IsBlockSize same parts.0, grind (arith, nat_tests))
      | false ↦ λ _ is.
          let far = later offset m (cond (nat_lt offset m) None (hole_at (offset - m) rest)) (hole_at (offset - m) rest) n refl is in
          let within = hole_within (offset - m) n rest parts.2 far.1 in
          (within.0, omega (arith, within.1, far.0))
    ] refl at

-- a block for any payload has a size that blocks can have
pub block_size-fits : (n : ℕ) → IsBlockSize (block_size n)
block_size-fits n = record { least = omega arith; even = omega arith }
