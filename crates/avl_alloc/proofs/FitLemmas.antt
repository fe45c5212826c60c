-- The best hole: what the tree finds is what the definition says of the heap's holes.
use Rattle.std.proofs.Common.{◌≡◌, ◌≢◌, ℕ, ◌+◌, ◌^◌, ◌<◌, ◌≤◌, true, false, refl, sym, ap, ◌∙◌, inl, inr, arith, List, [], ◌∷◌, ◌++◌, length, Option, Some, None}
use Rattle.std.specs.Prelude.{nat_lt, nat_le, if◌then◌else◌, ◌==◌, ◌&&◌, ◌||◌}
use Rattle.std.proofs.lemmas.Bool.{cases_lt}
use Rattle.std.proofs.lemmas.Bool.Decides.{nat_tests}
use Rattle.own_model.specs.Heap.{Block, Used, Hole, Heap}
use Rattle.own_model.specs.BestFit.{Spot, holes_in, holes_from, holes_of, comes_before, earlier, best_hole}
use Rattle.avl_alloc.specs.Fit.{AreShort, IsPlaceOf}
use Rattle.avl_alloc.specs.Words.{place_at}
use Rattle.avl_tree.specs.Tree.{Tree, tally, found, same, is_at, at_least, between, IsFirst, nowhere, somewhere, IsOrdered}
use Rattle.avl_alloc.specs.FreeBlocks.{key, by_key}
use Rattle.avl_alloc.specs.Layout.{weigh, weigh_all, none, weigh_holes, hole_count}
use Rattle.avl_tree.proofs.TreeLemmas.{one}
use Rattle.avl_tree.proofs.OrderLemmas.{same-same, found-first}
use Rattle.avl_alloc.proofs.HoleLemmas.{key_place}

-- ---- weights over the list of holes

-- the sum of a weight over holes
abbrev pub weigh_spots : (ℕ → ℕ → ℕ) → List Spot → ℕ
weigh_spots f [] = 0
weigh_spots f (x ∷ rest) = f (place_at x.chunk x.offset) x.size + weigh_spots f rest

weigh_spots-append : (f : ℕ → ℕ → ℕ) (xs ys : List Spot) → weigh_spots f (xs ++ ys) ≡ weigh_spots f xs + weigh_spots f ys
weigh_spots-append f [] ys = omega arith
weigh_spots-append f (x ∷ xs) ys = omega (arith, weigh_spots-append f xs ys)

weigh-holes_in : (f : ℕ → ℕ → ℕ) (chunk offset : ℕ) (blocks : List Block) → weigh_spots f (holes_in chunk offset blocks) ≡ weigh none f (place_at chunk offset) blocks
weigh-holes_in f chunk offset [] = refl
weigh-holes_in f chunk offset (Used n ∷ rest) =
    let next : place_at chunk (offset + n) ≡ place_at chunk offset + n = omega arith in
    let on : weigh_spots f (holes_in chunk (offset + n) rest) ≡ weigh none f (place_at chunk offset + n) rest = weigh-holes_in f chunk (offset + n) rest ∙ ap (λ p. weigh none f p rest) next in
    omega arith
weigh-holes_in f chunk offset (Hole n ∷ rest) =
    let next : place_at chunk (offset + n) ≡ place_at chunk offset + n = omega arith in
    let on : weigh_spots f (holes_in chunk (offset + n) rest) ≡ weigh none f (place_at chunk offset + n) rest = weigh-holes_in f chunk (offset + n) rest ∙ ap (λ p. weigh none f p rest) next in
    omega arith

weigh-holes_from : (f : ℕ → ℕ → ℕ) (number : ℕ) (heap : Heap) → weigh_spots f (holes_from number heap) ≡ weigh_all none f number heap
weigh-holes_from f number [] = refl
weigh-holes_from f number (blocks ∷ rest) =
    omega (arith, weigh_spots-append f (holes_in number 0 blocks) (holes_from (number + 1) rest), weigh-holes_in f number 0 blocks, weigh-holes_from f (number + 1) rest)

-- the sum of one for each is their number
weigh-one : (xs : List Spot) → weigh_spots one xs ≡ length xs
weigh-one [] = refl
weigh-one (x ∷ rest) = omega (arith, weigh-one rest)

pub holes_counted : (heap : Heap) → hole_count heap ≡ weigh_holes one heap
holes_counted heap = sym (weigh-one (holes_of heap)) ∙ weigh-holes_from one 0 heap

-- a weight that is less everywhere has the lesser sum
weigh_le : (f h : ℕ → ℕ → ℕ) → ((a s : ℕ) → f a s ≤ h a s) → (xs : List Spot) → weigh_spots f xs ≤ weigh_spots h xs
weigh_le f h le [] = omega arith
weigh_le f h le (x ∷ rest) = omega (arith, le (place_at x.chunk x.offset) x.size, weigh_le f h le rest)

place_short : (chunk offset : ℕ) → offset < 2 ^ 32 → chunk < 2 ^ 31 → place_at chunk offset < 2 ^ 64
place_short chunk offset so sc = omega arith

-- the same, for holes whose places are below what parts two sizes
weigh_le_short : (f h : ℕ → ℕ → ℕ) → ((a s : ℕ) → a < 2 ^ 64 → f a s ≤ h a s) → (xs : List Spot) → AreShort xs → weigh_spots f xs ≤ weigh_spots h xs
weigh_le_short f h le [] short = omega arith
weigh_le_short f h le (x ∷ rest) short = omega (arith, le (place_at x.chunk x.offset) x.size (place_short x.chunk x.offset short.0 short.1), weigh_le_short f h le rest short.2)

-- ---- the best of a list

-- 1 for a hole of at least so many bytes, else 0
abbrev enough : ℕ → ℕ → ℕ → ℕ
enough size a s = if nat_le size s then 1 else 0

-- 1 for one of them that comes before a key, else 0
abbrev better : ℕ → ℕ → ℕ → ℕ → ℕ
better size k a s = if nat_le size s && nat_lt (key a s) k then 1 else 0

not_enough : (size a s : ℕ) → s < size → enough size a s ≡ 0
not_enough size a s lt = grind (arith, nat_tests)

not_better : (size k a s : ℕ) → k ≤ key a s → better size k a s ≡ 0
not_better size k a s le = grind (arith, nat_tests)

not_better_small : (size k a s : ℕ) → s < size → better size k a s ≡ 0
not_better_small size k a s lt = grind (arith, nat_tests)

-- the key of a hole
abbrev pub key_of : Spot → ℕ
key_of x = key (place_at x.chunk x.offset) x.size

-- holes come in the order of their keys
comes_before-key : (x y : Spot) → x.offset < 2 ^ 32 → y.offset < 2 ^ 32 → x.chunk < 2 ^ 31 → y.chunk < 2 ^ 31 → comes_before x y ≡ nat_lt (key_of x) (key_of y)
comes_before-key x y sx sy cx cy =
    let p : ℕ = x.size in let q : ℕ = y.size in let c : ℕ = x.chunk in let d : ℕ = y.chunk in let o : ℕ = x.offset in let r : ℕ = y.offset in
    numbers x.size y.size x.chunk y.chunk x.offset y.offset sx sy cx cy
  where
    numbers : (p q c d o r : ℕ) → o < 2 ^ 32 → r < 2 ^ 32 → c < 2 ^ 31 → d < 2 ^ 31 →
        (nat_lt p q || (p == q && (nat_lt c d || (c == d && nat_lt o r)))) ≡ nat_lt (key (place_at c o) p) (key (place_at d r) q)
    numbers p q c d o r so sr sc sd = grind (arith, nat_tests)

-- the best of a list: large enough, in it, and none is better
pub data IsBest (size : ℕ) (spots : List Spot) : Option Spot → Type 0 where
  no_best : weigh_spots (enough size) spots ≡ 0 → IsBest size spots None
  best : (x : Spot) → x.offset < 2 ^ 32 → x.chunk < 2 ^ 31 → size ≤ x.size → 1 ≤ weigh_spots (same (place_at x.chunk x.offset) x.size) spots → weigh_spots (better size (key_of x)) spots ≡ 0 → IsBest size spots (Some x)

better_le : (size k n : ℕ) → k ≤ n → (a s : ℕ) → better size k a s ≤ better size n a s
better_le size k n le a s = grind (arith, nat_tests)

better_enough : (size k a s : ℕ) → better size k a s ≤ enough size a s
better_enough size k a s = grind (arith, nat_tests)

below : {a b : ℕ} → nat_lt a b ≡ true → a ≤ b
below {a} {b} is = grind (arith, nat_tests)

above : {a b : ℕ} → nat_lt a b ≡ false → b ≤ a
above {a} {b} is = grind (arith, nat_tests)

best_hole-is : (size : ℕ) (spots : List Spot) → AreShort spots → IsBest size spots (best_hole size spots)
best_hole-is size [] short = no_best refl
best_hole-is size (x ∷ rest) short =
    elim (nat_le size x.size) as (λ v. nat_le size x.size ≡ v → IsBest size (x ∷ rest) (if v then Some (earlier x (best_hole size rest)) else best_hole size rest)) [
      | true ↦ λ is. large (grind (arith, nat_tests)) (best_hole size rest) (best_hole-is size rest short.2)
      | false ↦ λ is. small (grind (arith, nat_tests)) (best_hole size rest) (best_hole-is size rest short.2)
    ] refl
  where
    here : 1 ≤ weigh_spots (same (place_at x.chunk x.offset) x.size) (x ∷ rest)
    here = omega (arith, same-same (place_at x.chunk x.offset) x.size)

    small : x.size < size → (o : Option Spot) → IsBest size rest o → IsBest size (x ∷ rest) o
    small lt None (no_best lacks) = no_best (omega (arith, not_enough size (place_at x.chunk x.offset) x.size lt))
    small lt (Some y) (best z so sc fits there least) =
        best z so sc fits (omega arith) (omega (arith, not_better_small size (key_of z) (place_at x.chunk x.offset) x.size lt))

    first : size ≤ x.size → weigh_spots (better size (key_of x)) rest ≡ 0 → IsBest size (x ∷ rest) (Some x)
    first fits least = best x short.0 short.1 fits here (omega (arith, not_better size (key_of x) (place_at x.chunk x.offset) x.size (omega arith)))

    large : size ≤ x.size → (o : Option Spot) → IsBest size rest o → IsBest size (x ∷ rest) (Some (earlier x o))
    large fits None (no_best lacks) = first fits (omega (arith, weigh_le (better size (key_of x)) (enough size) (better_enough size (key_of x)) rest))
    large fits (Some y) (best z so sc fits' there least) =
        elim (comes_before z x) as (λ v. comes_before z x ≡ v → IsBest size (x ∷ rest) (Some (if v then z else x))) [
          | true ↦ λ is.
              let lt : nat_lt (key_of z) (key_of x) ≡ true = sym (comes_before-key z x so short.0 sc short.1) ∙ is in
              let le : key_of z ≤ key_of x = below lt in
              best z so sc fits' (omega arith) (omega (arith, not_better size (key_of z) (place_at x.chunk x.offset) x.size le))
          | false ↦ λ is.
              let ge : nat_lt (key_of z) (key_of x) ≡ false = sym (comes_before-key z x so short.0 sc short.1) ∙ is in
              first fits (omega (arith, weigh_le (better size (key_of x)) (better size (key_of z)) (better_le size (key_of x) (key_of z) (above ge)) rest))
        ] refl

-- ---- the tree's answer

-- the weights of the tree, by key, and those of the definition
same_fits : (size k a s b t : ℕ) → size ≤ s → k ≤ key 0 size → same a s b t ≤ at_least k b (key b t)
same_fits size k a s b t fits le = grind (arith, nat_tests)

same_between : (size n a s b t : ℕ) → size ≤ s → key a s < n → same a s b t ≤ between (key 0 size) n b (key b t)
same_between size n a s b t fits lt = grind (arith, nat_tests)

key_enough : (size a n b t : ℕ) → b < 2 ^ 64 → key 0 size ≤ n → same a n b (key b t) ≤ enough size b t
key_enough size a n b t low le = grind (arith, nat_tests)

key_better : (size k a n b t : ℕ) → b < 2 ^ 64 → key 0 size ≤ n → n < k → same a n b (key b t) ≤ better size k b t
key_better size k a n b t low le lt = grind (arith, nat_tests)

-- a key tells the place
key_elsewhere : (a n p s b t : ℕ) → b < 2 ^ 64 → p < 2 ^ 64 → n ≡ key p s → a ≢ p → same a n b (key b t) ≤ 0
key_elsewhere a n p s b t low low' is differs =
    elim (key b t == n) as (λ v. (key b t == n) ≡ v → same a n b (key b t) ≤ 0) [
      | true ↦ λ same_key.
          let at : b ≡ p = key_place b t p s low low' (let e : key b t ≡ n = grind (arith, nat_tests) in e ∙ is) in
          grind (arith, nat_tests)
      | false ↦ λ no. grind (arith, nat_tests)
    ] refl

sum_none : (xs : List Spot) → weigh_spots (λ _ _. 0) xs ≡ 0
sum_none [] = refl
sum_none (x ∷ rest) = omega (arith, sum_none rest)

pub found-spot : (size : ℕ) (spots : List Spot) (t : Tree) (up : ℕ) → AreShort spots → IsOrdered 0 t up → tally (is_at 0) t ≡ 0 → ((f : ℕ → ℕ → ℕ) → tally f t ≡ weigh_spots (by_key f) spots) →
    IsPlaceOf (found (key 0 size) t) (best_hole size spots)
found-spot size spots t up short ordered some alike = meet (best_hole size spots) (found (key 0 size) t) (best_hole-is size spots short) (found-first (key 0 size) 0 t up ordered some)
  where
    meet : (o : Option Spot) (place : ℕ) → IsBest size spots o → IsFirst (key 0 size) t place → IsPlaceOf place o
    meet None place (no_best lacks) (nowhere lacking) = refl
    meet None place (no_best lacks) (somewhere a n fits there least) =
        absurd (omega (arith, there, lacks, alike (same a n), weigh_le_short (by_key (same a n)) (enough size) (λ b t low. key_enough size a n b t low fits) spots short))
    meet (Some y) place (best x so sc fits there least) (nowhere lacking) =
        absurd (omega (arith, there, lacking, alike (at_least (key 0 size)), weigh_le (same (place_at x.chunk x.offset) x.size) (by_key (at_least (key 0 size))) (λ b t. same_fits size (key 0 size) (place_at x.chunk x.offset) x.size b t fits (omega arith)) spots))
    meet (Some y) place (best x so sc fits there least) (somewhere a n fits' there' least') =
        elim (cases_lt (key_of x) n) [
          | inl lt ↦ absurd (omega (arith, there, least', alike (between (key 0 size) n), weigh_le (same (place_at x.chunk x.offset) x.size) (by_key (between (key 0 size) n)) (λ b t. same_between size n (place_at x.chunk x.offset) x.size b t fits lt) spots))
          | inr ge ↦ elim (cases_lt n (key_of x)) [
            | inl lt ↦ absurd (omega (arith, there', least, alike (same a n), weigh_le_short (by_key (same a n)) (better size (key_of x)) (λ b t low. key_better size (key_of x) a n b t low fits' lt) spots short))
            | inr le ↦ elim (a == place_at x.chunk x.offset) as (λ v. (a == place_at x.chunk x.offset) ≡ v → a ≡ place_at x.chunk x.offset) [
              | true ↦ λ is. grind (arith, nat_tests)
              | false ↦ λ no. absurd (omega (
                arith,
                there',
                alike (same a n),
                sum_none spots,
                weigh_le_short (by_key (same a n)) (λ _ _. 0) (λ b t low. key_elsewhere a n (place_at x.chunk x.offset) x.size b t low (place_short x.chunk x.offset so sc) (omega arith) (λ e. grind (arith, nat_tests))) spots short,
              ))
            ] refl
          ]
        ]

-- what a tree of a heap's holes finds is the best hole of the heap
pub found-best : (size : ℕ) (heap : Heap) (t : Tree) (up : ℕ) → AreShort (holes_of heap) → IsOrdered 0 t up → tally (is_at 0) t ≡ 0 → ((f : ℕ → ℕ → ℕ) → tally f t ≡ weigh_holes (by_key f) heap) →
    IsPlaceOf (found (key 0 size) t) (best_hole size (holes_of heap))
found-best size heap t up short ordered some alike =
    found-spot size (holes_of heap) t up short ordered some (λ f. alike f ∙ sym (weigh-holes_from (by_key f) 0 heap))
