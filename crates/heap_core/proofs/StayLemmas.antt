-- What a heap has where its chunks and large blocks stand where they stood, and hold what they held.
use Rattle.std.proofs.Common.{rules, ◌≡◌, ℕ, ◌<◌, cond, List, length, sym, ap, subst, ◌∙◌, arith, Some, is_some}
use Rattle.std.proofs.lemmas.Bool.Decides.{nat_tests}
use Rattle.std.specs.Option.{option_map}
use Rattle.std.specs.Ordering.{nat_cmp}
use Rattle.std.specs.FinMap.{get, from_entries, len}
use Rattle.own_model.specs.HeapWindow.{heap_low, heap_high}
use Rattle.own_model.specs.NatMap.{NatMap, joined}
use Rattle.own_model.specs.Region.{Region}
use Rattle.own_model.proofs.RegionApartLemmas.{LieApart-empty}
use Rattle.own_model.proofs.NatMapLemmas.{same, none_in_empty, picked_alike}
use Rattle.avl_alloc.specs.Layout as avl
use Rattle.avl_alloc.specs.Layout.{heap_of}
use Rattle.dataspace_core.specs.Store.{part}
use Rattle.dataspace_core.specs.Share.{Share, share_in}
use Rattle.dataspace_core.proofs.PartLaws.{open_in_part, part_open}
use Rattle.dataspace_core.proofs.WindowLaws.{length_some}
use Rattle.heap_core.specs.declared.heap.Heap.{Heap}
use Rattle.heap_core.specs.Heap.{IsLaid, IsLargeAt, chunk_at, large_tag, large_regions, bytes_shown, heap_in, payloads_of, words_in}
use Rattle.heap_core.specs.Theorems.{block_region, EmptyMapsHaveNoBlocks, HeapsStay, HeapsStayBeside}
use Rattle.sliced_heap.proofs.ShareLemmas.{IsBlockRegion, told_region, block_here, large_among, large_block, large_region}
use Rattle.dataspace_core.proofs.ShareLaws.{in_share}
use Rattle.heap_core.proofs.StandLemmas.{SameChunks, words_kept, stands_kept, payloads_kept}

-- ---- another share with the same regions, whose chunks hold the same

module _ (heap : Heap) (S T : Share) (laid : IsLaid heap S) (stand : (s : ℕ) → block_region T s ≡ block_region S s)
    (chunks : (s k : ℕ) (r : Region) → block_region S s ≡ Some (r, k) → k < large_tag → get T.part.spaces r.of ≡ get S.part.spaces r.of)
    (lengths : (s : ℕ) (r : Region) → get (large_regions S) s ≡ Some r → option_map length (get T.part.spaces r.of) ≡ option_map length (get S.part.spaces r.of)) where
  -- a region of the one is one of the other
  stays_there : (s k : ℕ) (r : Region) → block_region S s ≡ Some (r, k) → IsBlockRegion T s k r
  stays_there s k r h = told_region T s k r (stand s ∙ h)

  low_number : (k : ℕ) → k < length heap.chunks.items → k < large_tag
  low_number k there = let few = laid.few in omega (arith, there, few)

  chunk_region : (k : ℕ) (there : k < length heap.chunks.items) → block_region S (chunk_at heap k).start ≡ Some (record { of = (chunk_at heap k).ds.0; pages = (laid.chunks k there).pages }, k)
  chunk_region k there = grind (arith, nat_tests, low_number, block_here)

  pub same_chunks : SameChunks heap S T
  same_chunks = search (rules, stays_there, chunk_region, low_number)

  same_large : large_regions T ≡ large_regions S
  same_large = same _ _ (λ s. large_block T s ∙ ap large_among (stand s) ∙ sym (large_block S s))

  was_large : (s : ℕ) (r : Region) → get (large_regions T) s ≡ Some r → get (large_regions S) s ≡ Some r
  was_large s r h = ap (λ (m : NatMap Region). get m s) (sym same_large) ∙ h

  large_stays : (s : ℕ) (r : Region) → get (large_regions T) s ≡ Some r → IsLargeAt T r
  large_stays s r h =
      let was = laid.large_stands s r (was_large s r h) in
      let now = length_some (get T.part.spaces r.of) (length was.bytes) (lengths s r (was_large s r h) ∙ ap (option_map length) was.there) in
      record { bytes = now.0; there = now.1; whole = now.2 ∙ was.whole; least = was.least }

  -- has the heap laid in it
  pub laid_stays : IsLaid heap T
  laid_stays = record {
    fit = subst (avl.IsSound heap.fit) (sym (words_kept heap S T laid same_chunks)) laid.fit;
    count = laid.count;
    few = laid.few;
    chunks = stands_kept heap S T laid same_chunks;
    all = λ start k region there tag low.
        let was = told_region S start k region (sym (stand start) ∙ block_here T start k region there tag (omega (arith, low))) in
        laid.all start k region was.there was.tag low;
    large = λ start. laid.large start ∙ ap (λ (m : NatMap Region). cond (is_some (get m start)) 1 0) (sym same_large);
    large_count = laid.large_count ∙ ap len (sym same_large);
    large_stands = large_stays;
    growth_some = laid.growth_some;
    growth_most = laid.growth_most;
  }

  -- the payloads of its chunks
  abbrev pub small : NatMap (List ℕ)
  small = from_entries {R = nat_cmp} (payloads_of S.part heap.chunks.items (heap_of heap.fit (words_in heap S.part)))

  module _ (shown : NatMap (List ℕ)) (now : bytes_shown T.part.spaces (large_regions S) ≡ shown) where
    payloads_then : joined (from_entries {R = nat_cmp} (payloads_of T.part heap.chunks.items (heap_of heap.fit (words_in heap T.part)))) (bytes_shown T.part.spaces (large_regions T)) ≡ joined small shown
    payloads_then = search (rules, words_kept, same_chunks, payloads_kept, same_large)

    -- and the same value but for what its large blocks hold
    pub value_then : heap_in heap T ≡ record (heap_in heap S) { payloads = joined small shown }
    unfolding heap_in
    value_then = search (rules, words_kept, same_chunks, same_large, payloads_then)

-- where large blocks hold the same too, the value is the same
module _ (heap : Heap) (S T : Share) (laid : IsLaid heap S) (stand : (s : ℕ) → block_region T s ≡ block_region S s)
    (bytes : (s k : ℕ) (r : Region) → block_region S s ≡ Some (r, k) → get T.part.spaces r.of ≡ get S.part.spaces r.of) where
  large_bytes : (s : ℕ) (r : Region) → get (large_regions S) s ≡ Some r → get T.part.spaces r.of ≡ get S.part.spaces r.of
  large_bytes s r h = bytes s large_tag r (large_region S s r h)

  pub laid_same : IsLaid heap T
  laid_same = laid_stays heap S T laid stand (λ s k r h low. bytes s k r h) (λ s r h. ap (option_map length) (large_bytes s r h))

  pub value_same : heap_in heap T ≡ heap_in heap S
  unfolding heap_in
  value_same =
      value_then heap S T laid stand (λ s k r h low. bytes s k r h) (λ s r h. ap (option_map length) (large_bytes s r h)) (bytes_shown S.part.spaces (large_regions S))
      (picked_alike (λ (r : Region). get T.part.spaces r.of) (λ (r : Region). get S.part.spaces r.of) (large_regions S) large_bytes)

-- ---- a heap in a memory and a map

pub heap_stays : HeapsStay
unfolding share_in
heap_stays heap old new regions after sound maps opens stand bytes = search (rules, laid_same, value_same)

pub heap_stays_beside : HeapsStayBeside
unfolding share_in
heap_stays_beside heap other old new regions after sound apart keeps maps = grind (arith, nat_tests, heap_stays, open_in_part, part_open)

-- ---- a map without a region

pub empty_map : EmptyMapsHaveNoBlocks
empty_map store regions none pages most few = (
  record {
    size = pages;
    few = few;
    lie = LieApart-empty heap_low (heap_high regions.pages) regions.heap (λ s. ap (λ (m : NatMap Region). get m s) none);
    most_is = most;
    shown_whole = λ s r h. absurd (none_in_empty regions.heap none s r h);
    once = λ s t r q h g e. absurd (none_in_empty regions.heap none s r h);
  },
  λ account s k r h tag. absurd (none_in_empty regions.heap none s r (in_share (part account store) regions.heap regions.tags s r h).0),
)
