-- The ranges of a heap's chunks and large blocks are the regions that keep their numbers.
use Rattle.std.proofs.Common.{rules, ◌≡◌, ◌≢◌, ℕ, zero, suc, ◌*◌, ◌<◌, ◌≤◌, false, eqb, List, [], ◌∷◌, map, length, get_or, refl, sym, ap, subst, ◌∙◌, ⊎_elim, arith, Some}
use Rattle.std.proofs.lemmas.Bool.{cases_eq, cases_lt}
use Rattle.std.proofs.lemmas.Bool.Decides.{nat_tests}
use Rattle.std.proofs.lemmas.Option.{none-some, same_Some}
use Rattle.std.specs.Prelude.{Option, None}
use Rattle.std.specs.Option.{option_map, option_or}
use Rattle.std.specs.Cmp.{nat_cmp_total}
use Rattle.std.specs.FinMap.{get, get-from_entries}
use Rattle.own_model.specs.BestFit.{chunk_of}
use Rattle.own_model.specs.Entries.{value_of}
use Rattle.own_model.specs.Heap as model
use Rattle.own_model.specs.Heap.{bytes_in}
use Rattle.own_model.specs.NatMap.{NatMap, picked}
use Rattle.own_model.specs.OwnHeap.{chunk_ranges, range_pages, ranges_of_heap, ranges_of_large}
use Rattle.own_model.specs.Region.{Region}
use Rattle.own_model.proofs.EntryLemmas.{value_of_first, value_of_later}
use Rattle.own_model.proofs.NatMapJoinedLemmas.{get-joined}
use Rattle.own_model.proofs.NatMapLemmas.{get-picked_at, get-picked_none}
use Rattle.own_model.proofs.HeapOwnLemmas.{chunk_map, range_of_bytes}
use Rattle.avl_alloc.specs.Layout.{heap_of}
use Rattle.dataspace_core.specs.Share.{Share}
use Rattle.heap_core.specs.declared.words.Chunk.{Chunk}
use Rattle.heap_core.specs.declared.heap.Heap.{Heap}
use Rattle.heap_core.specs.Heap.{IsLaid, heap_in, large_regions, large_tag, payer_of, share_at, starts_in, words_in}
use Rattle.heap_core.specs.Theorems.{block_region, BlocksAreRegions}
use Rattle.heap_core.proofs.PayloadLemmas.{no_chunk}
use Rattle.heap_core.proofs.StandLemmas.{count_blocks, chunk_total}
use Rattle.sliced_heap.proofs.ShareLemmas.{block_here, told_region, large_among, large_block}

-- ---- the ranges of chunks

-- a range of whole pages has as many
pages_of : (n : ℕ) → 1 ≤ n → range_pages (n * 4096) ≡ n
pages_of n some = omega (arith, some)

-- no range starts where no chunk does
ranges_none : (chunks : List Chunk) (heap : model.Heap) (s : ℕ) → ((j : ℕ) → j < length chunks → (get_or chunks j no_chunk).start ≢ s) → value_of s (chunk_ranges (map (λ chunk. chunk.start) chunks) heap) ≡ None
ranges_none [] heap s none = refl
ranges_none (x ∷ xs) [] s none = refl
ranges_none (x ∷ xs) (y ∷ ys) s none = ⊎_elim
    (λ (same : s ≡ x.start). absurd (none 0 (omega arith) (sym same)))
    (λ (other : s ≢ x.start).
    let t : eqb s x.start ≡ false = grind (arith, nat_tests) in
    value_of_later s (x.start, range_of_bytes (bytes_in y)) (chunk_ranges (map (λ chunk. chunk.start) xs) ys) t
    ∙ ranges_none xs ys s (λ j there. none (suc j) (omega (arith, there))))
    (cases_eq s x.start)

-- the first chunk that starts there has its range there
ranges_at : (chunks : List Chunk) (heap : model.Heap) (s k : ℕ) → k < length chunks → k < length heap → (get_or chunks k no_chunk).start ≡ s → ((j : ℕ) → j < k → (get_or chunks j no_chunk).start ≢ s) →
    value_of s (chunk_ranges (map (λ chunk. chunk.start) chunks) heap) ≡ Some (range_of_bytes (bytes_in (chunk_of heap k)))
ranges_at [] heap s k there also at first = absurd (omega (arith, there))
ranges_at (x ∷ xs) [] s k there also at first = absurd (omega (arith, also))
ranges_at (x ∷ xs) (y ∷ ys) s zero there also at first = grind (arith, nat_tests, value_of_first, range_of_bytes)
ranges_at (x ∷ xs) (y ∷ ys) s (suc k) there also at first = ⊎_elim
    (λ (same : s ≡ x.start). absurd (first 0 (omega arith) (sym same)))
    (λ (other : s ≢ x.start).
    let t : eqb s x.start ≡ false = grind (arith, nat_tests) in
    value_of_later s (x.start, range_of_bytes (bytes_in y)) (chunk_ranges (map (λ chunk. chunk.start) xs) ys) t
    ∙ ranges_at xs ys s k (omega (arith, there)) (omega (arith, also)) at (λ j below. first (suc j) (omega (arith, below))))
    (cases_eq s x.start)

-- ---- a heap that is laid in a share

module _ (heap : Heap) (share : Share) (laid : IsLaid heap share) (s : ℕ) where
  abbrev H : model.Heap
  H = heap_of heap.fit (words_in heap share.part)

  abbrev large : NatMap ℕ
  large = picked (λ (r : Region). Some (r.pages * 4096)) (large_regions share)

  -- no chunk starts where no region with a chunk's number does
  no_chunk_here : ((k : ℕ) (r : Region) → block_region share s ≡ Some (r, k) → large_tag ≤ k) → value_of s (chunk_ranges (starts_in heap) H) ≡ None
  no_chunk_here none = ranges_none heap.chunks.items H s (λ j there e.
      let stands = laid.chunks j there in
      let few = laid.few in
      let high = none j _ (block_here share s j _ (ap (get share.heap) (sym e) ∙ stands.region) (ap (get share.tags) (sym e) ∙ stands.tag) (omega (arith, there, few))) in
      omega (arith, high, there, few))

  -- one with a chunk's number is a chunk's
  chunk_here : (k : ℕ) (r : Region) → block_region share s ≡ Some (r, k) → k < large_tag → value_of s (chunk_ranges (starts_in heap) H) ≡ Some (record { of = 0; pages = r.pages })
  chunk_here k r h low =
      let block = told_region share s k r h in
      let all = laid.all s k r block.there block.tag low in
      let there = all.0 in
      let stands = laid.chunks k there in
      let pages = ap (λ (x : Region). x.pages) (same_Some _ r (sym stands.region ∙ ap (get share.heap) all.1 ∙ block.there)) in
      let bytes = chunk_total heap share laid k there ∙ stands.whole ∙ ap (λ n. n * 4096) pages in
      let some : 1 ≤ r.pages = let least = stands.some in omega (arith, least, pages) in
      ranges_at heap.chunks.items H s k there (subst (λ n. k < n) (sym (count_blocks heap share laid)) there) all.1
      (λ j below e.
      let same = same_Some j k (sym (laid.chunks j (omega (arith, below, there))).tag ∙ ap (get share.tags) e ∙ block.tag) in omega (arith, same, below))
      ∙ ap (λ n. Some (record { of = 0; pages = n })) (ap range_pages bytes ∙ pages_of r.pages some)

  -- one with the number of a large block is one
  large_here : (r : Region) → block_region share s ≡ Some (r, large_tag) → get (ranges_of_large large) s ≡ Some (record { of = 0; pages = r.pages })
  large_here r h =
      let here : get (large_regions share) s ≡ Some r = large_block share s ∙ ap large_among h in
      let least = (laid.large_stands s r here).least in
      get-picked_at (λ bytes. Some (range_of_bytes bytes)) large s (r.pages * 4096) (get-picked_at (λ (r : Region). Some (r.pages * 4096)) (large_regions share) s r here)
      ∙ ap (λ n. Some (record { of = 0; pages = n })) (pages_of r.pages (omega (arith, least)))

  no_large_here : block_region share s ≡ None → get (ranges_of_large large) s ≡ None
  no_large_here h = search (rules, get-picked_none, range_of_bytes, large_block, large_among)

  either_here : (o : Option (Region × ℕ)) → block_region share s ≡ o → option_or (value_of s (chunk_ranges (starts_in heap) H)) (get (ranges_of_large large) s) ≡ option_map (λ (e : Region × ℕ). record { of = 0; pages = e.0.pages }) o
  either_here None h = grind (arith, nat_tests, no_chunk_here, none-some, no_large_here)
  either_here (Some (r, k)) h = grind (arith, nat_tests, chunk_here, told_region, no_chunk_here, same_Some, large_here, cases_lt)

  ranges_are : get (ranges_of_heap (heap_in heap share)) s ≡ option_map (λ (e : Region × ℕ). record { of = 0; pages = e.0.pages }) (block_region share s)
  unfolding heap_in
  ranges_are =
      get-joined (chunk_map (starts_in heap) H) (ranges_of_large large) s
      ∙ ap (λ p. option_or p (get (ranges_of_large large) s)) (get-from_entries nat_cmp_total (chunk_ranges (starts_in heap) H) s)
      ∙ either_here (block_region share s) refl

pub blocks_are_regions : BlocksAreRegions
blocks_are_regions heap store regions sound s = ranges_are heap (share_at (payer_of heap) store regions) sound.laid s
