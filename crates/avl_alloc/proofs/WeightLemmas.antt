-- Sums over blocks: how they add up, and that a place lies in one block at most.
use Rattle.std.proofs.Common.{◌≡◌, ℕ, ◌+◌, ◌*◌, ◌^◌, ◌≤◌, refl, ◌∙◌, arith, List, [], ◌∷◌, ◌++◌, length}
use Rattle.std.specs.List.{AllByRecursion}
use Rattle.std.proofs.lemmas.Bool.Decides.{nat_tests}
use Rattle.own_model.proofs.ListLemmas.{all_left, all_right}
use Rattle.own_model.specs.Heap.{Block, Used, Hole, size_of, bytes_in, Heap}
use Rattle.avl_alloc.specs.Words.{Words, place_at, within}
use Rattle.avl_alloc.specs.FreeBlocks.{heads, links}
use Rattle.avl_alloc.specs.Layout.{Laid, weigh, weigh_all, none, whole, AreChunks}
use Rattle.avl_alloc.specs.Context.{Context, heap_with, start_of, around}
use Rattle.avl_tree.proofs.TreeLemmas.{one}
use Rattle.avl_alloc.proofs.HoleLemmas.{within_in}

-- ---- blocks put end to end

module _ (u h : ℕ → ℕ → ℕ) where
  pub weigh-append : (p : ℕ) (xs ys : List Block) → weigh u h p (xs ++ ys) ≡ weigh u h p xs + weigh u h (p + bytes_in xs) ys
  weigh-append p [] ys = let here : p + 0 ≡ p = omega arith in rw here (omega arith)
  weigh-append p (Used n ∷ xs) ys = let there : p + (n + bytes_in xs) ≡ p + n + bytes_in xs = omega arith in rw there (omega (arith, weigh-append (p + n) xs ys))
  weigh-append p (Hole n ∷ xs) ys = let there : p + (n + bytes_in xs) ≡ p + n + bytes_in xs = omega arith in rw there (omega (arith, weigh-append (p + n) xs ys))

  pub weigh_all-append : (number : ℕ) (xs ys : Heap) → weigh_all u h number (xs ++ ys) ≡ weigh_all u h number xs + weigh_all u h (number + length xs) ys
  weigh_all-append number [] ys = let here : number + 0 ≡ number = omega arith in rw here (omega arith)
  weigh_all-append number (x ∷ xs) ys =
      let there : number + length (x ∷ xs) ≡ number + 1 + length xs = omega arith in
      rw there (omega (arith, weigh_all-append (number + 1) xs ys))

  -- a heap weighs what a part of it weighs and what is around
  pub weigh-site : (at : Context) (xs : List Block) → weigh_all u h 0 (heap_with at xs) ≡ around u h at (bytes_in xs) + weigh u h (start_of at) xs
  weigh-site at xs =
      let all = weigh_all-append 0 at.older ((at.left ++ (xs ++ at.right)) ∷ at.newer) in
      let left = weigh-append (place_at (length at.older) 0) at.left (xs ++ at.right) in
      let right = weigh-append (start_of at) xs at.right in
      let number : 0 + length at.older ≡ length at.older = omega arith in
      let start : place_at (length at.older) 0 + bytes_in at.left ≡ start_of at = omega arith in
      let all' = rw number at all in
      let left' = rw start at left in
      omega arith

  pub weigh-parts : (p : ℕ) (xs : List Block) → weigh u h p xs ≡ weigh u none p xs + weigh none h p xs
  weigh-parts p [] = refl
  weigh-parts p (Used n ∷ xs) = omega (arith, weigh-parts (p + n) xs)
  weigh-parts p (Hole n ∷ xs) = omega (arith, weigh-parts (p + n) xs)

  pub weigh_all-parts : (number : ℕ) (heap : Heap) → weigh_all u h number heap ≡ weigh_all u none number heap + weigh_all none h number heap
  weigh_all-parts number [] = refl
  weigh_all-parts number (x ∷ xs) = omega (arith, weigh-parts (place_at number 0) x, weigh_all-parts (number + 1) xs)

  pub around-parts : (at : Context) (n : ℕ) → around u h at n ≡ around u none at n + around none h at n
  around-parts at n =
      omega (arith, weigh_all-parts 0 at.older, weigh-parts (place_at (length at.older) 0) at.left, weigh-parts (start_of at + n) at.right, weigh_all-parts (length at.older + 1) at.newer)

-- ---- places

pub within_le : (a b q : ℕ) → within a b q ≤ 1
unfolding within
within_le a b q = grind (arith, nat_tests)

pub within_add : (a b c q : ℕ) → a ≤ b → b ≤ c → within a b q + within b c q ≡ within a c q
unfolding within
within_add a b c q l m = grind (arith, nat_tests)

pub within_mono : (a b c d q : ℕ) → c ≤ a → b ≤ d → within a b q ≤ within c d q
unfolding within
within_mono a b c d q l m = grind (arith, nat_tests)

-- a place in blocks is in one of them
pub weigh-whole : (q p : ℕ) (xs : List Block) → weigh (whole q) (whole q) p xs ≡ within p (p + bytes_in xs) q
weigh-whole q p [] = let here : p + 0 ≡ p = omega arith in rw here (omega (arith, within_add p p p q (omega arith) (omega arith)))
weigh-whole q p (Used n ∷ xs) =
    let there : p + (n + bytes_in xs) ≡ p + n + bytes_in xs = omega arith in
    rw there (omega (arith, weigh-whole q (p + n) xs, within_add p (p + n) (p + n + bytes_in xs) q (omega arith) (omega arith)))
weigh-whole q p (Hole n ∷ xs) =
    let there : p + (n + bytes_in xs) ≡ p + n + bytes_in xs = omega arith in
    rw there (omega (arith, weigh-whole q (p + n) xs, within_add p (p + n) (p + n + bytes_in xs) q (omega arith) (omega arith)))

-- blocks that have room for a header and a node
abbrev pub IsLong : Block → Type 0
IsLong b = 48 ≤ size_of b

abbrev pub AreLong : List Block → Type 0
AreLong blocks = AllByRecursion IsLong blocks

-- a node is no more than its hole, and a header no more than its block
pub node_whole : (q place size : ℕ) → 48 ≤ size → heads q place size + links q place size ≤ whole q place size
node_whole q place size least =
    omega (arith, within_add place (place + 16) (place + 48) q (omega arith) (omega arith), within_mono place (place + 48) place (place + size) q (omega arith) (omega arith))

-- what headers and nodes take of blocks
pub record AreTidy (used_heads used_bytes hole_heads nodes hole_bytes : ℕ) : Type 0 where
  pub used : used_heads ≤ used_bytes
  pub holes : hole_heads + nodes ≤ hole_bytes

abbrev pub TidyIn : ℕ → ℕ → List Block → Type 0
TidyIn q p xs = AreTidy (weigh (heads q) none p xs) (weigh (whole q) none p xs) (weigh none (heads q) p xs) (weigh none (links q) p xs) (weigh none (whole q) p xs)

abbrev pub TidyAll : ℕ → ℕ → Heap → Type 0
TidyAll q n xs = AreTidy (weigh_all (heads q) none n xs) (weigh_all (whole q) none n xs) (weigh_all none (heads q) n xs) (weigh_all none (links q) n xs) (weigh_all none (whole q) n xs)

pub tidy_in : (q p : ℕ) (xs : List Block) → AreLong xs → TidyIn q p xs
tidy_in q p [] long = record { used = omega arith; holes = omega arith }
tidy_in q p (Used n ∷ xs) long =
    let rest = tidy_in q (p + n) xs long.1 in
    let here = node_whole q p n long.0 in
    record { used = omega arith; holes = omega arith }
tidy_in q p (Hole n ∷ xs) long =
    let rest = tidy_in q (p + n) xs long.1 in
    let here = node_whole q p n long.0 in
    record { used = omega arith; holes = omega arith }

pub tidy_all : (q n : ℕ) (heap : Heap) → AllByRecursion AreLong heap → TidyAll q n heap
tidy_all q n [] long = record { used = omega arith; holes = omega arith }
tidy_all q n (x ∷ xs) long =
    let rest = tidy_all q (n + 1) xs long.1 in
    let here = tidy_in q (place_at n 0) x long.0 in
    record { used = omega arith; holes = omega arith }

-- ---- all of a list

-- ---- around a part of a heap

pub tidy_around : (q : ℕ) (at : Context) (xs : List Block) (n : ℕ) → AllByRecursion AreLong (heap_with at xs) →
    AreTidy (around (heads q) none at n) (around (whole q) none at n) (around none (heads q) at n) (around none (links q) at n) (around none (whole q) at n)
tidy_around q at xs n long =
    let chunk = at.left ++ (xs ++ at.right) in
    let here = all_right AreLong at.older (chunk ∷ at.newer) long in
    let older = tidy_all q 0 at.older (all_left AreLong at.older (chunk ∷ at.newer) long) in
    let left = tidy_in q (place_at (length at.older) 0) at.left (all_left IsLong at.left (xs ++ at.right) here.0) in
    let right = tidy_in q (start_of at + n) at.right (all_right IsLong xs at.right (all_right IsLong at.left (xs ++ at.right) here.0)) in
    let newer = tidy_all q (length at.older + 1) at.newer here.1 in
    record { used = omega arith; holes = omega arith }

-- ---- chunks

-- headers whose words stay are still there
pub laid_kept : (w v : Words) (place : ℕ) (blocks : List Block) → ((q : ℕ) → 1 ≤ weigh (heads q) (heads q) place blocks → v q ≡ w q) → Laid w place blocks → Laid v place blocks
laid_kept w v place [] same laid = tt
laid_kept w v place (Used n ∷ rest) same laid = (
  record {
    sized = laid.0.sized;
    size = same place (omega (arith, within_in place (place + 16) place (omega arith) (omega arith))) ∙ laid.0.size;
    state = same (place + 8) (omega (arith, within_in place (place + 16) (place + 8) (omega arith) (omega arith))) ∙ laid.0.state;
  },
  laid_kept w v (place + n) rest (λ q in_rest. same q (omega arith)) laid.1,
)
laid_kept w v place (Hole n ∷ rest) same laid = (
  record {
    sized = laid.0.sized;
    size = same place (omega (arith, within_in place (place + 16) place (omega arith) (omega arith))) ∙ laid.0.size;
    state = same (place + 8) (omega (arith, within_in place (place + 16) (place + 8) (omega arith) (omega arith))) ∙ laid.0.state;
  },
  laid_kept w v (place + n) rest (λ q in_rest. same q (omega arith)) laid.1,
)

pub chunks_kept : (w v : Words) (number : ℕ) (sizes : List ℕ) (heap : Heap) → ((q : ℕ) → 1 ≤ weigh_all (heads q) (heads q) number heap → v q ≡ w q) → AreChunks w number sizes heap → AreChunks v number sizes heap
chunks_kept w v number [] [] same are = tt
chunks_kept w v number [] (blocks ∷ rest) same are = absurd are
chunks_kept w v number (size ∷ sizes) [] same are = absurd are
chunks_kept w v number (size ∷ sizes) (blocks ∷ rest) same are = (
  record { laid = laid_kept w v (place_at number 0) blocks (λ q here. same q (omega arith)) are.0.laid; total = are.0.total; short = are.0.short },
  chunks_kept w v (number + 1) sizes rest (λ q behind. same q (omega arith)) are.1,
)

-- blocks that are laid are long
pub laid_long : (w : Words) (place : ℕ) (blocks : List Block) → Laid w place blocks → AreLong blocks
laid_long w place [] laid = tt
laid_long w place (Used n ∷ rest) laid = (laid.0.sized.least, laid_long w (place + n) rest laid.1)
laid_long w place (Hole n ∷ rest) laid = (laid.0.sized.least, laid_long w (place + n) rest laid.1)

pub chunks_long : (w : Words) (number : ℕ) (sizes : List ℕ) (heap : Heap) → AreChunks w number sizes heap → AllByRecursion AreLong heap
chunks_long w number [] [] are = tt
chunks_long w number [] (blocks ∷ rest) are = absurd are
chunks_long w number (size ∷ sizes) [] are = absurd are
chunks_long w number (size ∷ sizes) (blocks ∷ rest) are = (laid_long w (place_at number 0) blocks are.0.laid, chunks_long w (number + 1) sizes rest are.1)

-- chunks stand apart
pub chunks_apart : (w : Words) (q number : ℕ) (sizes : List ℕ) (heap : Heap) → AreChunks w number sizes heap →
    weigh_all (whole q) (whole q) number heap ≤ within (place_at number 0) (place_at (number + length heap) 0) q
chunks_apart w q number [] [] are = omega arith
chunks_apart w q number [] (blocks ∷ rest) are = absurd are
chunks_apart w q number (size ∷ sizes) [] are = absurd are
chunks_apart w q number (size ∷ sizes) (blocks ∷ rest) are =
    let p : ℕ = place_at number 0 in
    let last : ℕ = place_at (number + length (blocks ∷ rest)) 0 in
    let same : place_at (number + 1 + length rest) 0 ≡ last = omega arith in
    let behind = rw same at (chunks_apart w q (number + 1) sizes rest are.1) in
    let total = are.0.total in
    let short = are.0.short in
    omega (
      arith,
      weigh-whole q p blocks,
      within_mono p (p + bytes_in blocks) p (place_at (number + 1) 0) q (omega arith) (omega arith),
      within_add p (place_at (number + 1) 0) last q (omega arith) (omega arith),
      behind,
    )

-- ---- holes are few

pub few_in : (p : ℕ) (blocks : List Block) → AreLong blocks → weigh none one p blocks * 48 ≤ bytes_in blocks
few_in p [] long = omega arith
few_in p (Used n ∷ rest) long = omega (arith, few_in (p + n) rest long.1)
few_in p (Hole n ∷ rest) long = let here = long.0 in omega (arith, few_in (p + n) rest long.1)

pub few_holes : (w : Words) (number : ℕ) (sizes : List ℕ) (heap : Heap) → AreChunks w number sizes heap → weigh_all none one number heap * 48 ≤ length sizes * 2 ^ 32
few_holes w number [] [] are = omega arith
few_holes w number [] (blocks ∷ rest) are = absurd are
few_holes w number (size ∷ sizes) [] are = absurd are
few_holes w number (size ∷ sizes) (blocks ∷ rest) are =
    let total = are.0.total in
    let short = are.0.short in
    omega (arith, few_in (place_at number 0) blocks (laid_long w (place_at number 0) blocks are.0.laid), few_holes w (number + 1) sizes rest are.1)
