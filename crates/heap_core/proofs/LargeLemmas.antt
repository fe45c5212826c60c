-- A large block comes, and goes.
use Rattle.std.proofs.Common.{rules, ◌≡◌, ◌≢◌, ℕ, ◌+◌, ◌*◌, ◌<◌, ◌≤◌, ◌++◌, cond, List, [], ◌∷◌, length, refl, sym, ap, subst, ◌∙◌, ⊎_elim, ◌⊎◌, arith, Some, is_some}
use Rattle.std.proofs.lemmas.Bool.{cases_eq, cases_lt}
use Rattle.std.proofs.lemmas.List.{length-append}
use Rattle.std.proofs.lemmas.List.Sums.{sum_by-append}
use Rattle.std.proofs.lemmas.Option.{none-some, same_Some}
use Rattle.std.specs.Prelude.{None}
use Rattle.std.specs.Ordering.{nat_cmp}
use Rattle.std.specs.FinMap.{get, insert, len, from_entries, get-from_entries}
use Rattle.arrayvec.specs.ArrayVec.{ArrayVec}
use Rattle.own_model.specs.NatMap.{NatMap}
use Rattle.own_model.specs.OwnState.{zeros}
use Rattle.own_model.specs.Region.{Region}
use Rattle.own_model.proofs.NatMapJoinedLemmas.{joined-insert_second}
use Rattle.own_model.proofs.NatMapLemmas.{get-insert_same, get-insert_other, picked-insert_some, picked_alike}
use Rattle.own_model.proofs.Totals.{len-insert_new}
use Rattle.avl_alloc.specs.Layout as avl
use Rattle.dataspace_core.specs.Store.{Part}
use Rattle.dataspace_core.specs.Share.{Share}
use Rattle.heap_core.specs.declared.heap.Heap.{Heap}
use Rattle.heap_core.specs.Heap.{large_tag, is_large_tag, large_regions, bytes_shown, heap_in, IsLaid, IsLargeAt, chunk_at, payloads_of, times_in, HasLargeBlocks}
use Rattle.heap_core.proofs.PayloadLemmas.{payloads-none, entries_of}
use Rattle.sliced_heap.proofs.ShareLemmas.{large_there, numbered-insert, numbered_free}
use Rattle.heap_core.proofs.StandLemmas.{blocks, no_blocks, not_in_chunk, SameChunks, words_kept, stands_kept, payloads_kept}

-- what keeps the parts of a heap where a region comes or goes that is no chunk's
module _ (heap : Heap) (share : Share) (part : Part) (start : ℕ) (region : Region) (bytes : List ℕ) (vec : ArrayVec ℕ)
    (laid : IsLaid heap share) (free : get share.heap start ≡ None) (is : vec.items ≡ heap.large.items ++ start ∷ [])
    (there : get part.spaces region.of ≡ Some bytes) (whole : length bytes ≡ region.pages * 4096) (least : 16 ≤ region.pages)
    (keeps : (s : ℕ) (r : Region) → get share.heap s ≡ Some r → get part.spaces r.of ≡ get share.part.spaces r.of)
    (apart : (k : ℕ) → k < length heap.chunks.items → (start < (chunk_at heap k).start) ⊎ ((chunk_at heap k).start + avl.bytes_of heap.fit k ≤ start)) where
  -- the share with the region, and the heap with the block
  abbrev pub larger : Share
  larger = record { part = part; heap = insert share.heap start region; tags = insert share.tags start large_tag }

  abbrev pub with_it : Heap
  with_it = record heap { large = vec }

  -- a region that was there doesn't start there
  elsewhere : (s : ℕ) (r : Region) → get share.heap s ≡ Some r → s ≢ start
  elsewhere s r h e = none-some r (sym free ∙ ap (get share.heap) (sym e) ∙ h)

  alike : SameChunks heap share larger
  alike = record {
    heap_same = λ k in_chunks. get-insert_other share.heap start region _ (elsewhere _ _ (laid.chunks k in_chunks).region);
    tags_same = λ k in_chunks. get-insert_other share.tags start large_tag _ (elsewhere _ _ (laid.chunks k in_chunks).region);
    bytes_same = λ k in_chunks. keeps _ _ (laid.chunks k in_chunks).region;
  }

  -- its region is one of a large block more
  more : large_regions larger ≡ insert (large_regions share) start region
  more = numbered-insert is_large_tag share.heap share.tags start large_tag region refl

  large_free : get (large_regions share) start ≡ None
  large_free = numbered_free is_large_tag share.heap share.tags start free

  -- a region of a large block is one of the share
  is_region : (s : ℕ) (r : Region) → get (large_regions share) s ≡ Some r → get share.heap s ≡ Some r
  is_region s r h = large_there share s r h

  stands : HasLargeBlocks larger
  stands s r h = ⊎_elim
      (λ (here : s ≡ start).
      let e = same_Some region r (sym (get-insert_same (large_regions share) start region s here) ∙ ap (λ (m : NatMap Region). get m s) (sym more) ∙ h) in
      subst (IsLargeAt larger) e (record { bytes = bytes; there = there; whole = whole; least = least }))
      (λ (other : s ≢ start).
      let was = sym (get-insert_other (large_regions share) start region s other) ∙ ap (λ (m : NatMap Region). get m s) (sym more) ∙ h in
      let old = laid.large_stands s r was in
      record { bytes = old.bytes; there = keeps s r (is_region s r was) ∙ old.there; whole = old.whole; least = old.least })
      (cases_eq s start)

  times : (s : ℕ) → times_in vec.items s ≡ cond (is_some (get (large_regions larger) s)) 1 0
  times s = search (rules, sum_by-append, large_free, more, get-insert_same, get-insert_other, cases_eq)

  pub large_laid : IsLaid with_it larger
  large_laid = record {
    fit = subst (avl.IsSound heap.fit) (sym (words_kept heap share larger laid alike)) laid.fit;
    count = laid.count;
    few = laid.few;
    chunks = stands_kept heap share larger laid alike;
    all = λ s k r h tag low. ⊎_elim
        (λ (here : s ≡ start). let e = same_Some large_tag k (sym (get-insert_same share.tags start large_tag s here) ∙ tag) in absurd (omega (arith, e, low)))
        (λ (other : s ≢ start). laid.all s k r (sym (get-insert_other share.heap start region s other) ∙ h) (sym (get-insert_other share.tags start large_tag s other) ∙ tag) low)
        (cases_eq s start);
    large = times;
    large_count = ap length is ∙ length-append heap.large.items (start ∷ []) ∙ ap (λ n. n + 1) laid.large_count ∙ sym (ap len more ∙ len-insert_new (large_regions share) start region large_free);
    large_stands = stands;
    growth_some = laid.growth_some;
    growth_most = laid.growth_most;
  }

  -- none of the chunks' payloads starts there
  none_there : get (from_entries {R = nat_cmp} (payloads_of share.part heap.chunks.items (blocks heap share laid))) start ≡ None
  none_there = search (rules, get-from_entries, payloads-none, blocks, not_in_chunk, entries_of, no_blocks, cases_lt)

  -- what its region shows is one payload more
  shown_more : bytes_shown part.spaces (large_regions larger) ≡ insert (bytes_shown share.part.spaces (large_regions share)) start bytes
  shown_more =
      ap (bytes_shown part.spaces) more
      ∙ picked-insert_some (λ (r : Region). get part.spaces r.of) (large_regions share) start region bytes there
      ∙ ap (λ m. insert m start bytes) (picked_alike (λ (r : Region). get part.spaces r.of) (λ (r : Region). get share.part.spaces r.of) (large_regions share) (λ q r h. keeps q r (is_region q r h)))

  payloads : (heap_in with_it larger).payloads ≡ insert (heap_in heap share).payloads start bytes
  unfolding heap_in
  payloads = simp (words_kept, alike, payloads_kept, blocks, shown_more, joined-insert_second, none_there)

  pub large_value : (n : ℕ) → region.pages * 4096 ≡ n → bytes ≡ zeros n → heap_in with_it larger ≡ record (heap_in heap share) { large = insert (heap_in heap share).large start n; payloads = insert (heap_in heap share).payloads start (zeros n) }
  unfolding heap_in
  large_value n size zero = search (rules, words_kept, alike, more, picked-insert_some, payloads)
