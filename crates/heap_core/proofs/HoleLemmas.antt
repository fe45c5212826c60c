-- Words of used blocks lie in no hole, so they stay where only holes change; and words that stay keep bytes.
use Rattle.std.proofs.Common.{◌≡◌, ℕ, zero, suc, ◌+◌, ◌-◌, ◌%◌, ◌<◌, ◌≤◌, true, List, [], ◌∷◌, length, get_or, take, drop, sym, ap, subst, ◌∙◌, arith, rules, Some, inl, inr}
use Rattle.std.proofs.lemmas.Bool.{cases_lt}
use Rattle.std.proofs.lemmas.Bool.Decides.{nat_tests}
use Rattle.std.proofs.lemmas.List.{same_lists, places, get_or-take, get_or-drop}
use Rattle.std.proofs.lemmas.Option.{none-some}
use Rattle.std.specs.Prelude.{slice_range}
use Rattle.trade_base.specs.Word.{word_of, word_bytes}
use Rattle.trade_base.proofs.WordLemmas.{word_bytes-word_of}
use Rattle.trade_base.proofs.BytesLemmas.{length-slice_range}
use Rattle.own_model.specs.BestFit.{used_at, chunk_of}
use Rattle.own_model.specs.Heap as model
use Rattle.own_model.specs.Heap.{Block, Used, Hole, AreBlocks, bytes_in}
use Rattle.own_model.proofs.HeapBlockLemmas.{tail_blocks}
use Rattle.own_model.proofs.ListLemmas.{all_within}
use Rattle.avl_alloc.specs.FreeBlocks.{heads}
use Rattle.std.specs.List.{AllByRecursion}
use Rattle.avl_alloc.specs.declared.best_fit.BestFit.{BestFit}
use Rattle.avl_alloc.specs.Layout.{heap_of, bytes_of, kept_at, sizes_of, weigh, weigh_all, weigh_holes, none, whole, IsSound}
use Rattle.avl_alloc.specs.Words.{place_at, within}
use Rattle.avl_alloc.proofs.HoleLemmas.{within_in}
use Rattle.avl_alloc.proofs.LayoutLemmas.{sound_told, chunk_there}
use Rattle.avl_alloc.proofs.WeightLemmas.{weigh_all-parts, within_le, within_mono, chunks_apart}
use Rattle.heap_core.specs.Words.{are_bytes, word_from}
use Rattle.heap_core.proofs.BlockLemmas.{length-heap_of}
use Rattle.heap_core.proofs.UsedLemmas.{used_cases, used_past}
use Rattle.heap_core.proofs.WordsLemmas.{bytes_below, bytes_taken, bytes_dropped, word_there}

-- ---- a used block is in no hole

-- a place in a used block has a weight among the used ones
used_weighs : (p off n q : ℕ) (blocks : List Block) → used_at off blocks ≡ Some n → p + off ≤ q → q < p + off + n → 1 ≤ weigh (whole q) none p blocks
used_weighs p off n q [] at low high = absurd (none-some n at)
used_weighs p off n q (Used m ∷ rest) at low high = elim (used_cases off n m rest at) [
  | inl both ↦
      let first = both.0 in
      let same = both.1 in
      let one = within_in p (p + m) q (omega (arith, low)) (omega (arith, high, first, same)) in omega (arith, one)
  | inr later ↦
      let past = later.0 in
      let less = used_weighs (p + m) (off - m) n q rest later.1 (omega (arith, low, past)) (omega (arith, high, past)) in omega (arith, less)
]
used_weighs p off n q (Hole m ∷ rest) at low high =
    let later = used_past off n m rest at in
    let past = later.0 in
    let less = used_weighs (p + m) (off - m) n q rest later.1 (omega (arith, low, past)) (omega (arith, high, past)) in omega (arith, less)

-- a chunk weighs no more than all do
one_of_all : (u h : ℕ → ℕ → ℕ) (number k : ℕ) (heap : model.Heap) → k < length heap → weigh u h (place_at (number + k) 0) (get_or heap k []) ≤ weigh_all u h number heap
one_of_all u h number k [] there = absurd (omega (arith, there))
one_of_all u h number zero (x ∷ xs) there = grind (arith, nat_tests)
one_of_all u h number (suc k) (x ∷ xs) there = grind (arith, nat_tests, one_of_all u h (number + 1) k xs (omega (arith, there)))

-- a place in a used block lies in no hole
pub used_no_hole : (fit : BestFit) (w : ℕ → ℕ) (k off n q : ℕ) → IsSound fit w → k < length (heap_of fit w) → used_at off (chunk_of (heap_of fit w) k) ≡ Some n →
    place_at k off ≤ q → q < place_at k off + n → weigh_holes (whole q) (heap_of fit w) ≡ 0
used_no_hole fit w k off n q sound there at low high =
    let here = used_weighs (place_at k 0) off n q (chunk_of (heap_of fit w) k) at (omega (arith, low)) (omega (arith, high)) in
    let number : 0 + k ≡ k = omega arith in
    let all = subst (λ m. weigh (whole q) none (place_at m 0) (get_or (heap_of fit w) k []) ≤ weigh_all (whole q) none 0 (heap_of fit w)) number (one_of_all (whole q) none 0 k (heap_of fit w) there) in
    let parts = weigh_all-parts (whole q) (whole q) 0 (heap_of fit w) in
    let apart = chunks_apart w q 0 (sizes_of fit) (heap_of fit w) (sound_told fit w sound).laid.chunks in
    let most = within_le (place_at 0 0) (place_at (0 + length (heap_of fit w)) 0) q in
    omega (arith, here, all, parts, apart, most)

-- ---- words that stay keep bytes

-- a byte of eight
at_slice : (bs : List ℕ) (o r d : ℕ) → r < 8 → get_or (slice_range bs o (o + 8)) r d ≡ get_or bs (o + r) d
at_slice bs o r d low = let n : o + 8 - o ≡ 8 = omega arith in get_or-take (o + 8 - o) (drop o bs) r d (rw n low) ∙ get_or-drop o bs r d

slice_below : (bs : List ℕ) (o : ℕ) → are_bytes bs ≡ true → (i : ℕ) → get_or (slice_range bs o (o + 8)) i 0 < 256
slice_below bs o b i = bytes_below (take (o + 8 - o) (drop o bs)) i (bytes_taken (drop o bs) (o + 8 - o) (bytes_dropped bs o b))

-- bytes with the same words in a range have the same there
pub slices_same : (bs cs : List ℕ) (from to : ℕ) → length bs ≡ length cs → are_bytes bs ≡ true → are_bytes cs ≡ true → from % 8 ≡ 0 → to % 8 ≡ 0 → to ≤ length bs →
    ((o : ℕ) → o % 8 ≡ 0 → from ≤ o → o + 8 ≤ to → word_from bs o ≡ word_from cs o) → slice_range bs from to ≡ slice_range cs from to
slices_same bs cs from to long b c first last fits words = same_lists _ _ (search (rules, places, long)) (λ k d h.
    let n : length (slice_range bs from to) ≡ to - from = search (rules, places) in
    let within : k < to - from = subst (λ m. k < m) n h in
    let p = from + k in
    let o : ℕ = p - p % 8 in
    let even : o % 8 ≡ 0 = omega arith in
    let low : from ≤ o = omega (arith, first) in
    let high : o + 8 ≤ to = omega (arith, last, within) in
    let word : word_of (slice_range bs o (o + 8)) ≡ word_of (slice_range cs o (o + 8)) =
    sym (word_there bs o even (omega (arith, high, fits))) ∙ words o even low high ∙ word_there cs o even (omega (arith, high, fits, long)) in
    let same : slice_range bs o (o + 8) ≡ slice_range cs o (o + 8) =
    sym (word_bytes-word_of _ (length-slice_range bs o 8 (omega (arith, high, fits))) (slice_below bs o b)) ∙ ap word_bytes word
    ∙ word_bytes-word_of _ (length-slice_range cs o 8 (omega (arith, high, fits, long))) (slice_below cs o c) in
    let at : o + p % 8 ≡ p = omega arith in
    get_or-take (to - from) (drop from bs) k d within ∙ get_or-drop from bs k d
    ∙ ap (λ q. get_or bs q d) (sym at) ∙ sym (at_slice bs o (p % 8) d (omega arith)) ∙ ap (λ xs. get_or xs (p % 8) d) same ∙ at_slice cs o (p % 8) d (omega arith) ∙ ap (λ q. get_or cs q d) at
    ∙ sym (get_or-take (to - from) (drop from cs) k d within ∙ get_or-drop from cs k d))

-- ---- a used payload is nothing that a heap keeps for itself

within_past : (a b q : ℕ) → b ≤ q → within a b q ≡ 0
unfolding within
within_past a b q past = grind (arith, nat_tests, cases_lt)

-- headers weigh no more than their blocks
heads_in : (q p : ℕ) (blocks : List Block) → AreBlocks blocks → weigh (heads q) none p blocks ≤ weigh (whole q) none p blocks
heads_in q p [] sizes = omega arith
heads_in q p (Used m ∷ rest) sizes = grind (arith, nat_tests, within_mono, heads_in q (p + m) rest sizes.1)
heads_in q p (Hole m ∷ rest) sizes = let less = heads_in q (p + m) rest (tail_blocks (Hole m) rest sizes).1 in omega (arith, less)

-- of a used block's payload only its bytes weigh, not its header
payload_weighs : (p off n q : ℕ) (blocks : List Block) → AreBlocks blocks → used_at off blocks ≡ Some n → p + off + 16 ≤ q → q < p + off + n → weigh (heads q) none p blocks + 1 ≤ weigh (whole q) none p blocks
payload_weighs p off n q [] sizes at low high = absurd (none-some n at)
payload_weighs p off n q (Used m ∷ rest) sizes at low high = elim (used_cases off n m rest at) [
  | inl both ↦
      let first = both.0 in
      let same = both.1 in
      let one = within_in p (p + m) q (omega (arith, low)) (omega (arith, high, first, same)) in
      let none_here = within_past p (p + 16) q (omega (arith, low, first)) in
      let rest_le = heads_in q (p + m) rest sizes.1 in omega (arith, one, none_here, rest_le)
  | inr later ↦
      let past = later.0 in
      let least = sizes.0.least in
      let here = within_mono p (p + 16) p (p + m) q (omega arith) (omega (arith, least)) in
      let less = payload_weighs (p + m) (off - m) n q rest sizes.1 later.1 (omega (arith, low, past)) (omega (arith, high, past)) in
      omega (arith, less, here)
]
payload_weighs p off n q (Hole m ∷ rest) sizes at low high =
    let later = used_past off n m rest at in
    let past = later.0 in
    let parts = tail_blocks (Hole m) rest sizes in
    let less = payload_weighs (p + m) (off - m) n q rest parts.1 later.1 (omega (arith, low, past)) (omega (arith, high, past)) in
    omega (arith, less)

-- nor does the whole heap keep them
heads_all : (q number : ℕ) (heap : model.Heap) → AllByRecursion AreBlocks heap → weigh_all (heads q) none number heap ≤ weigh_all (whole q) none number heap
heads_all q number [] all = omega arith
heads_all q number (x ∷ xs) all = let here = heads_in q (place_at number 0) x all.0 in let rest = heads_all q (number + 1) xs all.1 in omega (arith, here, rest)

payload_all : (q number k : ℕ) (heap : model.Heap) → AllByRecursion AreBlocks heap → k < length heap →
    weigh (heads q) none (place_at (number + k) 0) (get_or heap k []) + 1 ≤ weigh (whole q) none (place_at (number + k) 0) (get_or heap k []) → weigh_all (heads q) none number heap + 1 ≤ weigh_all (whole q) none number heap
payload_all q number k [] all there less = absurd (omega (arith, there))
payload_all q number zero (x ∷ xs) all there less = grind (arith, nat_tests, heads_all)
payload_all q number (suc k) (x ∷ xs) all there less =
    let e : number + suc k ≡ number + 1 + k = omega arith in
    let later = subst (λ m. weigh (heads q) none (place_at m 0) (get_or xs k []) + 1 ≤ weigh (whole q) none (place_at m 0) (get_or xs k [])) e less in
    let rest = payload_all q (number + 1) k xs all.1 (omega (arith, there)) later in
    let here = heads_in q (place_at number 0) x all.0 in omega (arith, rest, here)

-- a place in a used block's payload is none that the heap keeps for itself
pub payload_unkept : (fit : BestFit) (w : ℕ → ℕ) (k off n q : ℕ) → IsSound fit w → k < length (heap_of fit w) → used_at off (chunk_of (heap_of fit w) k) ≡ Some n →
    place_at k off + 16 ≤ q → q < place_at k off + n → kept_at q (heap_of fit w) ≡ 0
payload_unkept fit w k off n q sound there at low high =
    let told = sound_told fit w sound in
    let none_here = used_no_hole fit w k off n q sound there at (omega (arith, low)) high in
    let number : k ≡ 0 + k = omega arith in
    let blocks = all_within AreBlocks (heap_of fit w) k [] told.blocks there in
    let here = subst (λ m. weigh (heads q) none (place_at m 0) (get_or (heap_of fit w) k []) + 1 ≤ weigh (whole q) none (place_at m 0) (get_or (heap_of fit w) k [])) number
    (payload_weighs (place_at k 0) off n q (chunk_of (heap_of fit w) k) blocks at (omega (arith, low)) (omega (arith, high))) in
    let less = payload_all q 0 k (heap_of fit w) told.blocks there here in
    let parts = weigh_all-parts (heads q) (whole q) 0 (heap_of fit w) in
    let bytes = weigh_all-parts (whole q) (whole q) 0 (heap_of fit w) in
    let apart = chunks_apart w q 0 (sizes_of fit) (heap_of fit w) told.laid.chunks in
    let most = within_le (place_at 0 0) (place_at (0 + length (heap_of fit w)) 0) q in
    omega (arith, none_here, less, parts, bytes, apart, most)

within_some : (a b q : ℕ) → 1 ≤ within a b q → (a ≤ q) × (q < b)
unfolding within
within_some a b q some = search (rules, within_past, cases_lt)

-- what a heap keeps for itself lies in its chunks
pub kept_in_chunks : (fit : BestFit) (w : ℕ → ℕ) (q : ℕ) → IsSound fit w → 1 ≤ kept_at q (heap_of fit w) → (place_at 0 0 ≤ q) × (q < place_at (length (heap_of fit w)) 0)
kept_in_chunks fit w q sound kept =
    let told = sound_told fit w sound in
    let parts = weigh_all-parts (heads q) (whole q) 0 (heap_of fit w) in
    let bytes = weigh_all-parts (whole q) (whole q) 0 (heap_of fit w) in
    let less = heads_all q 0 (heap_of fit w) told.blocks in
    let apart = chunks_apart w q 0 (sizes_of fit) (heap_of fit w) told.laid.chunks in
    let at = within_some (place_at 0 0) (place_at (0 + length (heap_of fit w)) 0) q (omega (arith, kept, parts, bytes, less, apart)) in
    let high = at.1 in
    (at.0, omega (arith, high))

-- ---- the blocks that words tell

-- they are as many chunks as there are, of block sizes that make up each chunk's bytes, and no used block is in a hole
pub record AreTold (blocks : model.Heap) (fit : BestFit) (n : ℕ) : Type 0 where
  pub count : length blocks ≡ n
  pub each : (k : ℕ) → k < n → AreBlocks (chunk_of blocks k)
  pub total : (k : ℕ) → k < n → bytes_in (chunk_of blocks k) ≡ bytes_of fit k
  pub no_hole : (k off m q : ℕ) → k < n → used_at off (chunk_of blocks k) ≡ Some m → place_at k off ≤ q → q < place_at k off + m → weigh_holes (whole q) blocks ≡ 0

pub are_told : (fit : BestFit) (w : ℕ → ℕ) (n : ℕ) → IsSound fit w → length (sizes_of fit) ≡ n → AreTold (heap_of fit w) fit n
are_told fit w n sound sizes =
    let told = sound_told fit w sound in
    let count = length-heap_of fit w ∙ sizes in
    record {
      count = count;
      each = λ k there. all_within AreBlocks (heap_of fit w) k [] told.blocks (subst (λ m. k < m) (sym count) there);
      total = λ k there. (chunk_there w 0 (sizes_of fit) (heap_of fit w) k told.laid.chunks (subst (λ m. k < m) (sym sizes) there)).total;
      no_hole = λ k off m q there at low high. used_no_hole fit w k off m q sound (subst (λ l. k < l) (sym count) there) at low high;
    }
