-- The definition's best hole as a part of a heap, and what taking it and giving a block back make of its chunk.
use Rattle.std.proofs.Common.{◌≡◌, ℕ, zero, suc, ◌+◌, ◌-◌, ◌*◌, ◌/◌, ◌^◌, ◌<◌, ◌≤◌, true, false, refl, ap, ◌∙◌, subst, pow-suc, arith, List, [], ◌∷◌, ◌++◌, length, Option, Some, None}
use Rattle.std.specs.Prelude.{◌==◌, nat_lt, nat_le, if◌then◌else◌, slice_set}
use Rattle.std.specs.List.{AllByRecursion}
use Rattle.std.proofs.lemmas.Bool.Decides.{nat_tests}
use Rattle.std.proofs.lemmas.List.{append_assoc, length-append}
use Rattle.std.proofs.Math.Seq.{get_or-append_seam, set-append_seam}
use Rattle.own_model.specs.Heap.{Block, Used, Hole, size_of, bytes_in, IsBlockSize, AreBlocks, Heap}
use Rattle.own_model.specs.BestFit.{Spot, holes_in, holes_from, holes_of, comes_before, earlier, best_hole, cut, taken_in, chunk_of, digits_up_to, binary_digits}
use Rattle.avl_alloc.specs.Fit.{AreShort}
use Rattle.avl_alloc.specs.Words.{Words}
use Rattle.avl_alloc.specs.Layout.{AreChunks}
use Rattle.avl_alloc.specs.Context.{Context, heap_with}
use Rattle.avl_alloc.proofs.WeightLemmas.{AreLong, laid_long}
use Rattle.own_model.proofs.HeapBlockLemmas.{bytes-append}
use Rattle.own_model.proofs.ListLemmas.{all_append, all_left, all_right}

-- ---- digits

digits_many : (most n : ℕ) → n ≤ most → n < 2 ^ digits_up_to most n
digits_many zero n le = omega arith
digits_many (suc most) zero le = omega arith
digits_many (suc most) (suc n) le =
    let test : (suc n == 0) ≡ false = grind (arith, nat_tests) in
    let half = digits_many most (suc n / 2) (omega arith) in
    let twice : 2 ^ (1 + digits_up_to most (suc n / 2)) ≡ 2 ^ digits_up_to most (suc n / 2) * 2 = ap (λ k. 2 ^ k) (omega arith) ∙ pow-suc 2 (digits_up_to most (suc n / 2)) in
    simp test (omega arith)

pub below_digits : (n : ℕ) → n < 2 ^ binary_digits n
unfolding binary_digits
below_digits n = digits_many n n (omega arith)

-- ---- the best hole is one of the heap

all-map : {X : Type 0} (P Q : X → Type 0) → ((x : X) → P x → Q x) → (xs : List X) → AllByRecursion P xs → AllByRecursion Q xs
all-map P Q f [] all = tt
all-map P Q f (x ∷ xs) all = (f x all.0, all-map P Q f xs all.1)

-- a hole that is found has a property, and is large enough
abbrev pub IfFound : (Spot → Type 0) → ℕ → Option Spot → Type 0
IfFound P size None = Unit {0}
IfFound P size (Some x) = P x × (size ≤ x.size)

best_found : (P : Spot → Type 0) (size : ℕ) (spots : List Spot) → AllByRecursion P spots → IfFound P size (best_hole size spots)
best_found P size [] all = tt
best_found P size (x ∷ rest) all =
    elim (nat_le size x.size) as (λ v. nat_le size x.size ≡ v → IfFound P size (if v then Some (earlier x (best_hole size rest)) else best_hole size rest)) [
      | true ↦ λ is. pick (grind (arith, nat_tests)) (best_hole size rest) (best_found P size rest all.1)
      | false ↦ λ is. best_found P size rest all.1
    ] refl
  where
    pick : size ≤ x.size → (o : Option Spot) → IfFound P size o → IfFound P size (Some (earlier x o))
    pick fits None found = (all.0, fits)
    pick fits (Some y) found =
        elim (comes_before y x) as (λ v. IfFound P size (Some (if v then y else x))) [ true ↦ found | false ↦ (all.0, fits) ]

-- a hole of a heap is a part of it
pub record IsSpotOf (heap : Heap) (x : Spot) : Type 0 where
  pub site : Context
  pub is : heap_with site (Hole x.size ∷ []) ≡ heap
  pub chunk : length site.older ≡ x.chunk
  pub offset : bytes_in site.left ≡ x.offset

-- a hole of blocks stands among them
abbrev pub IsSpotIn : List Block → ℕ → Spot → Type 0
IsSpotIn blocks chunk x = (left : List Block) × (right : List Block) × (left ++ Hole x.size ∷ right ≡ blocks) × (bytes_in left ≡ x.offset) × (chunk ≡ x.chunk)

spots_in : (chunk offset : ℕ) (front blocks : List Block) → bytes_in front ≡ offset → AllByRecursion (IsSpotIn (front ++ blocks) chunk) (holes_in chunk offset blocks)
spots_in chunk offset front [] at = tt
spots_in chunk offset front (Used n ∷ rest) at =
    let on : front ++ Used n ∷ [] ++ rest ≡ front ++ Used n ∷ rest = simp append_assoc in
    subst (λ z. AllByRecursion (IsSpotIn z chunk) (holes_in chunk (offset + n) rest)) on
    (spots_in chunk (offset + n) (front ++ Used n ∷ []) rest (omega (arith, bytes-append front (Used n ∷ []))))
spots_in chunk offset front (Hole n ∷ rest) at =
    let on : front ++ Hole n ∷ [] ++ rest ≡ front ++ Hole n ∷ rest = simp append_assoc in (
      (front, rest, refl, at, refl),
      subst (λ z. AllByRecursion (IsSpotIn z chunk) (holes_in chunk (offset + n) rest)) on
          (spots_in chunk (offset + n) (front ++ Hole n ∷ []) rest (omega (arith, bytes-append front (Hole n ∷ [])))),
    )

spots_from : (number : ℕ) (front heap : Heap) → length front ≡ number → AllByRecursion (IsSpotOf (front ++ heap)) (holes_from number heap)
spots_from number front [] at = tt
spots_from number front (blocks ∷ rest) at =
    let on : front ++ blocks ∷ [] ++ rest ≡ front ++ blocks ∷ rest = simp append_assoc in
    all_append (IsSpotOf (front ++ blocks ∷ rest)) (holes_in number 0 blocks) (holes_from (number + 1) rest)
    (all-map (IsSpotIn blocks number) (IsSpotOf (front ++ blocks ∷ rest)) here (holes_in number 0 blocks) (spots_in number 0 [] blocks refl))
    (subst (λ z. AllByRecursion (IsSpotOf z) (holes_from (number + 1) rest)) on
    (spots_from (number + 1) (front ++ blocks ∷ []) rest (omega (arith, length-append front (blocks ∷ [])))))
  where
    here : (x : Spot) → IsSpotIn blocks number x → IsSpotOf (front ++ blocks ∷ rest) x
    here x spot = record {
      site = record { older = front; left = spot.0; right = spot.1; newer = rest };
      is = ap (λ b. front ++ b ∷ rest) spot.2;
      chunk = at ∙ spot.4;
      offset = spot.3;
    }

-- the best hole stands in the heap, and is large enough
pub best_spot : (size : ℕ) (heap : Heap) → IfFound (IsSpotOf heap) size (best_hole size (holes_of heap))
best_spot size heap = best_found (IsSpotOf heap) size (holes_of heap) (spots_from 0 [] heap refl)

-- ---- places differ

short_append : (xs ys : List Spot) → AreShort xs → AreShort ys → AreShort (xs ++ ys)
short_append [] ys short short' = short'
short_append (x ∷ xs) ys short short' = (short.0, short.1, short_append xs ys short.2 short')

short_in : (chunk offset : ℕ) (blocks : List Block) → AreLong blocks → offset + bytes_in blocks ≤ 2 ^ 32 → chunk < 2 ^ 31 → AreShort (holes_in chunk offset blocks)
short_in chunk offset [] long short low = tt
short_in chunk offset (Used n ∷ rest) long short low = short_in chunk (offset + n) rest long.1 (omega arith) low
short_in chunk offset (Hole n ∷ rest) long short low = let least = long.0 in (omega arith, low, short_in chunk (offset + n) rest long.1 (omega arith) low)

pub short_from : (w : Words) (number : ℕ) (sizes : List ℕ) (heap : Heap) → AreChunks w number sizes heap → number + length sizes ≤ 64 → AreShort (holes_from number heap)
short_from w number [] [] are few = tt
short_from w number [] (blocks ∷ rest) are few = absurd are
short_from w number (size ∷ sizes) [] are few = absurd are
short_from w number (size ∷ sizes) (blocks ∷ rest) are few =
    let total = are.0.total in
    let short = are.0.short in
    short_append (holes_in number 0 blocks) (holes_from (number + 1) rest)
    (short_in number 0 blocks (laid_long w _ blocks are.0.laid) (omega arith) (omega arith)) (short_from w (number + 1) sizes rest are.1 (omega arith))

-- ---- what taking it makes

taken_in_there : (size n : ℕ) (left right : List Block) → AreLong left → taken_in size (bytes_in left) (left ++ Hole n ∷ right) ≡ left ++ (cut size n ++ right)
taken_in_there size n [] right long = refl
taken_in_there size n (b ∷ left) right long =
    let least = long.0 in
    let test : (size_of b + bytes_in left == 0) ≡ false = grind (arith, nat_tests) in
    let on : size_of b + bytes_in left - size_of b ≡ bytes_in left = omega arith in
    simp (test, on) (ap (λ rest. b ∷ rest) (taken_in_there size n left right long.1))

pub taken_is : (size n : ℕ) (at : Context) → AreLong at.left → slice_set (heap_with at (Hole n ∷ [])) (length at.older) (taken_in size (bytes_in at.left) (chunk_of (heap_with at (Hole n ∷ [])) (length at.older))) ≡ heap_with at (cut size n)
taken_is size n at long =
    let blocks = at.left ++ Hole n ∷ at.right in
    let there : chunk_of (heap_with at (Hole n ∷ [])) (length at.older) ≡ blocks = get_or-append_seam at.older blocks at.newer [] in
    ap (λ b. slice_set (heap_with at (Hole n ∷ [])) (length at.older) (taken_in size (bytes_in at.left) b)) there
    ∙ ap (slice_set (heap_with at (Hole n ∷ [])) (length at.older)) (taken_in_there size n at.left at.right long)
    ∙ set-append_seam at.older blocks at.newer (at.left ++ (cut size n ++ at.right))

-- ---- no two holes are neighbours

-- no hole comes first
abbrev pub StartsUsed : List Block → Type 0
StartsUsed [] = Unit {0}
StartsUsed (Used n ∷ rest) = Unit {0}
StartsUsed (Hole n ∷ rest) = ⊥

pub hole_behind : (n : ℕ) (xs : List Block) → AreBlocks (Hole n ∷ xs) → IsBlockSize n × StartsUsed xs × AreBlocks xs
hole_behind n [] are = (are, tt, tt)
hole_behind n (Used m ∷ xs) are = (are.0, tt, are.1)
hole_behind n (Hole m ∷ xs) are = absurd are

pub hole_before : (n : ℕ) (xs : List Block) → IsBlockSize n → StartsUsed xs → AreBlocks xs → AreBlocks (Hole n ∷ xs)
hole_before n [] size starts are = size
hole_before n (Used m ∷ xs) size starts are = (size, are)
hole_before n (Hole m ∷ xs) size starts are = absurd starts

starts_turned : (left xs ys : List Block) → (StartsUsed xs → StartsUsed ys) → StartsUsed (left ++ xs) → StartsUsed (left ++ ys)
starts_turned [] xs ys turn starts = turn starts
starts_turned (Used n ∷ left) xs ys turn starts = tt
starts_turned (Hole n ∷ left) xs ys turn starts = absurd starts

blocks_turned : (left xs ys : List Block) → (StartsUsed xs → StartsUsed ys) → (AreBlocks xs → AreBlocks ys) → AreBlocks (left ++ xs) → AreBlocks (left ++ ys)
blocks_turned [] xs ys starts turn are = turn are
blocks_turned (Used n ∷ left) xs ys starts turn are = (are.0, blocks_turned left xs ys starts turn are.1)
blocks_turned (Hole n ∷ left) xs ys starts turn are =
    let rest = hole_behind n (left ++ xs) are in
    hole_before n (left ++ ys) rest.0 (starts_turned left xs ys starts rest.1) (blocks_turned left xs ys starts turn rest.2)

-- a chunk's change keeps the heap's blocks where it keeps the chunk's
pub heap_turned : (at : Context) (xs ys : List Block) → (AreBlocks (at.left ++ (xs ++ at.right)) → AreBlocks (at.left ++ (ys ++ at.right))) →
    AllByRecursion AreBlocks (heap_with at xs) → AllByRecursion AreBlocks (heap_with at ys)
heap_turned at xs ys turn all =
    let here = all_right AreBlocks at.older ((at.left ++ (xs ++ at.right)) ∷ at.newer) all in
    all_append AreBlocks at.older ((at.left ++ (ys ++ at.right)) ∷ at.newer)
    (all_left AreBlocks at.older ((at.left ++ (xs ++ at.right)) ∷ at.newer) all) (turn here.0, here.1)

cut_blocks : (size n : ℕ) (right : List Block) → IsBlockSize size → size ≤ n → AreBlocks (Hole n ∷ right) → AreBlocks (cut size n ++ right)
cut_blocks size n right sized le are =
    let rest = hole_behind n right are in
    elim (nat_lt (n - size) 48) as (λ v. nat_lt (n - size) 48 ≡ v → AreBlocks ((if v then Used n ∷ [] else Used size ∷ Hole (n - size) ∷ []) ++ right)) [
      | true ↦ λ less. (rest.0, rest.2)
      | false ↦ λ more.
          let even = sized.even in
          let even' = rest.0.even in
          (sized, hole_before (n - size) right (record { least = grind (arith, nat_tests); even = omega arith }) rest.1 rest.2)
    ] refl

pub taken_blocks : (size n : ℕ) (at : Context) → IsBlockSize size → size ≤ n → AllByRecursion AreBlocks (heap_with at (Hole n ∷ [])) → AllByRecursion AreBlocks (heap_with at (cut size n))
taken_blocks size n at sized le =
    heap_turned at (Hole n ∷ []) (cut size n)
    (blocks_turned at.left (Hole n ∷ at.right) (cut size n ++ at.right) (λ starts. absurd starts) (cut_blocks size n at.right sized le))
