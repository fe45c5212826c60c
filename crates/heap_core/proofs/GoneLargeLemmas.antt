-- A large block is given back: its dataspace is detached and goes, and so does its payload.
use Rattle.std.proofs.Common.{rules, ◌≡◌, ◌≢◌, ℕ, ◌+◌, ◌<◌, ◌≤◌, true, cond, eqb-true, List, length, get_or, sym, ap, subst, ◌∙◌, ⊎_elim, arith, Some, is_some}
use Rattle.std.proofs.lemmas.Bool.{cases_eq, cases_lt}
use Rattle.std.proofs.lemmas.Bool.Decides.{nat_tests}
use Rattle.std.proofs.lemmas.List.Sums.{sum_by-swap_remove}
use Rattle.std.proofs.lemmas.Option.{none-some}
use Rattle.std.specs.Prelude.{None}
use Rattle.std.specs.List.{swap_remove}
use Rattle.std.specs.Cmp.{nat_cmp_total}
use Rattle.std.specs.Ordering.{nat_cmp}
use Rattle.std.specs.FinMap.{get, remove, len, from_entries, get-from_entries}
use Rattle.std.proofs.lemmas.List.{get_or_default}
use Rattle.arrayvec.specs.ArrayVec.{ArrayVec}
use Rattle.own_model.specs.Entries.{value_of}
use Rattle.own_model.specs.HeapStep.{without_large}
use Rattle.own_model.specs.NatMap.{NatMap, joined}
use Rattle.own_model.specs.Region.{Region}
use Rattle.own_model.proofs.NatMapJoinedLemmas.{get-joined}
use Rattle.own_model.proofs.NatMapLemmas.{same, get-remove, get-remove_same, get-remove_other, before_remove, picked-remove, picked_alike}
use Rattle.own_model.proofs.Totals.{len-remove_at}
use Rattle.avl_alloc.specs.Layout as avl
use Rattle.region_map.specs.Regions.{Regions, heap_detached}
use Rattle.dataspace_core.specs.Store.{Store, part, space_at, PartBecomes, part_without_space, OtherSpacesStay}
use Rattle.dataspace_core.specs.Share.{Share, share_in, KeepsShares}
use Rattle.heap_core.specs.declared.heap.Heap.{Heap}
use Rattle.heap_core.specs.Calls.{GivesLarge}
use Rattle.heap_core.specs.Heap.{is_large_tag, large_regions, bytes_shown, heap_in, IsLaid, IsSound, IsLargeAt, chunk_at, payer_of, payloads_of, share_at, times_in}
use Rattle.heap_core.specs.Lookup.{LiesInLarge}
use Rattle.heap_core.proofs.FoundLemmas.{chunk_large, large_outside}
use Rattle.dataspace_core.proofs.GoneLaws.{gone_charge, gone_count, gone_open, gone_others, gone_paid, gone_share, gone_shares, gone_window, in_map, once_shown}
use Rattle.heap_core.proofs.PayloadLemmas.{payloads-none, entries_of}
use Rattle.sliced_heap.proofs.ShareLemmas.{large_there, numbered-remove}
use Rattle.dataspace_core.proofs.ShareLaws.{in_share}
use Rattle.heap_core.proofs.StandLemmas.{blocks, no_blocks, not_in_chunk, SameChunks, words_kept, stands_kept, payloads_kept}

-- one less in the second of two maps, where the first has none there
joined-remove_second : {X : Type 0} (m n : NatMap X) (k : ℕ) → get m k ≡ None → joined m (remove n k) ≡ remove (joined m n) k
joined-remove_second m n k free = search (rules, same, get-joined, get-remove, eqb-true)

-- the element at an index, as a removal tells it
pub item_is : (xs : List ℕ) (i d x start : ℕ) → i < length xs → x ≡ get_or xs i d → get_or xs i 0 ≡ start → x ≡ start
item_is xs i d x start there is at = is ∙ get_or_default xs i d 0 there ∙ at

module _ (heap : Heap) (start ds : ℕ) (old new : Store) (regions : Regions) (sound : IsSound heap old regions) (block : LiesInLarge (share_at (payer_of heap) old regions) start start ds) where
  abbrev account : ℕ
  account = payer_of heap

  abbrev S : Share
  S = share_at account old regions

  abbrev after : Regions
  after = heap_detached regions start

  abbrev region : Region
  region = record { of = ds; pages = block.pages }

  shown_there : get S.heap start ≡ Some region
  shown_there = large_there S start region block.region

  -- its region is in the map, and its dataspace in the memory
  pub gone_region : is_some (get regions.heap start) ≡ true
  gone_region = ap is_some (in_map account start ds block.pages old new regions.pages regions.heap_most regions.heap regions.tags sound.opens sound.window shown_there)

  pub gone_exists : is_some (get old.spaces ds) ≡ true
  gone_exists = (gone_paid account start ds block.pages old new regions.pages regions.heap_most regions.heap regions.tags sound.opens sound.window shown_there).exists

  module _ (vec : ArrayVec ℕ) (index : ℕ) (d : ℕ) (there : index < length heap.large.items) (at : get_or heap.large.items index 0 ≡ start) (is : vec.items ≡ swap_remove heap.large.items index d)
      (freed : PartBecomes (space_at old ds).payer (part_without_space (part (space_at old ds).payer old) ds) old new) where
    abbrev pub later : Heap
    later = record heap { large = vec }

    -- the share without the block
    abbrev smaller : Share
    smaller = record { part = part account new; heap = remove S.heap start; tags = remove S.tags start }

    now : share_at account new after ≡ smaller
    now = gone_share account start ds block.pages old new regions.pages regions.heap_most regions.heap regions.tags sound.opens sound.window shown_there freed

    others : OtherSpacesStay account ds old new
    others = gone_others account start ds block.pages old new regions.pages regions.heap_most regions.heap regions.tags sound.opens sound.window shown_there freed

    -- a region elsewhere is of another dataspace
    elsewhere : (s : ℕ) (r : Region) → get S.heap s ≡ Some r → s ≢ start → r.of ≢ ds
    elsewhere s r h other e =
        other (once_shown account start ds block.pages old new regions.pages regions.heap_most regions.heap regions.tags sound.opens sound.window shown_there s r (in_share (part account old) regions.heap regions.tags s r h).0 e)

    kept : (s : ℕ) (r : Region) → get S.heap s ≡ Some r → s ≢ start → get (part account new).spaces r.of ≡ get S.part.spaces r.of
    unfolding share_in
    kept s r h other = others r.of (elsewhere s r h other)

    chunk_apart : (k : ℕ) → k < length heap.chunks.items → (chunk_at heap k).start ≢ start
    chunk_apart k in_heap = chunk_large heap old regions sound k start region in_heap block.region

    alike : SameChunks heap S smaller
    alike = record {
      heap_same = λ k in_heap. get-remove_other S.heap start _ (chunk_apart k in_heap);
      tags_same = λ k in_heap. get-remove_other S.tags start _ (chunk_apart k in_heap);
      bytes_same = λ k in_heap. kept _ _ (sound.laid.chunks k in_heap).region (chunk_apart k in_heap);
    }

    -- its region is one of a large block less
    less : large_regions smaller ≡ remove (large_regions S) start
    less = numbered-remove is_large_tag S.heap S.tags start

    pub gone_left : large_regions (share_at account new after) ≡ remove (large_regions S) start
    gone_left = ap large_regions now ∙ less

    was_large : (s : ℕ) (r : Region) → get (large_regions smaller) s ≡ Some r → (get (large_regions S) s ≡ Some r) × (s ≢ start)
    was_large s r h = grind (arith, nat_tests, less, before_remove, none-some, get-remove_same)

    stands : (s : ℕ) (r : Region) → get (large_regions smaller) s ≡ Some r → IsLargeAt smaller r
    stands s r h =
        let was = was_large s r h in
        let stood = sound.laid.large_stands s r was.0 in
        record { bytes = stood.bytes; there = kept s r (large_there S s r was.0) was.1 ∙ stood.there; whole = stood.whole; least = stood.least }

    times : (s : ℕ) → times_in vec.items s ≡ cond (is_some (get (large_regions smaller) s)) 1 0
    times s = grind (arith, nat_tests, sum_by-swap_remove, get_or_default, less, get-remove_same, get-remove_other, cases_eq)

    gone_laid : (count : length vec.items + 1 ≡ length heap.large.items) → IsLaid later smaller
    gone_laid count = record {
      fit = subst (avl.IsSound heap.fit) (sym (words_kept heap S smaller sound.laid alike)) sound.laid.fit;
      count = sound.laid.count;
      few = sound.laid.few;
      chunks = stands_kept heap S smaller sound.laid alike;
      all = λ s k r h tag low. sound.laid.all s k r (before_remove S.heap start s r h) (before_remove S.tags start s k tag) low;
      large = times;
      large_count =
          let a = sound.laid.large_count in
          let b = ap len less in
          let e = len-remove_at (large_regions S) start region block.region in
          omega (arith, count, a, b, e);
      large_stands = stands;
      growth_some = sound.laid.growth_some;
      growth_most = sound.laid.growth_most;
    }

    pub gone_sound : (count : length vec.items + 1 ≡ length heap.large.items) → IsSound later new after
    gone_sound count = search (rules, gone_open, shown_there, gone_window, now, gone_laid)

    pub gone_keeps : KeepsShares account old new regions.heap regions.tags after.heap after.tags
    gone_keeps = gone_shares account start ds block.pages old new regions.pages regions.heap_most regions.heap regions.tags sound.opens sound.window shown_there freed

    -- none of the chunks' payloads starts there
    none_there : get (from_entries {R = nat_cmp} (payloads_of S.part heap.chunks.items (blocks heap S sound.laid))) start ≡ None
    none_there = get-from_entries nat_cmp_total _ start ∙ payloads-none S.part start heap.chunks.items (blocks heap S sound.laid) (λ k. ⊎_elim
        (λ (in_heap : k < length heap.chunks.items). not_in_chunk heap S sound.laid k start in_heap (large_outside heap old regions sound k start start region in_heap block.region block.low block.high))
        (λ (out : length heap.chunks.items ≤ k). ap (λ bs. value_of start (entries_of S.part (chunk_at heap k) bs)) (no_blocks heap S sound.laid k out))
        (cases_lt k (length heap.chunks.items)))

    shown_less : bytes_shown (part account new).spaces (large_regions smaller) ≡ remove (bytes_shown S.part.spaces (large_regions S)) start
    shown_less =
        picked_alike (λ (r : Region). get (part account new).spaces r.of) (λ (r : Region). get S.part.spaces r.of) (large_regions smaller) (λ q r h. let was = was_large q r h in kept q r (large_there S q r was.0) was.1)
        ∙ ap (bytes_shown S.part.spaces) less
        ∙ picked-remove (λ (r : Region). get S.part.spaces r.of) (large_regions S) start

    payloads : (heap_in later smaller).payloads ≡ remove (heap_in heap S).payloads start
    unfolding heap_in
    payloads =
        ap (λ (w : ℕ → ℕ). joined (from_entries {R = nat_cmp} (payloads_of (part account new) heap.chunks.items (avl.heap_of heap.fit w))) (bytes_shown (part account new).spaces (large_regions smaller))) (words_kept heap S smaller sound.laid alike)
        ∙ ap (λ es. joined (from_entries {R = nat_cmp} es) (bytes_shown (part account new).spaces (large_regions smaller))) (payloads_kept heap S smaller sound.laid alike (blocks heap S sound.laid))
        ∙ ap (joined (from_entries {R = nat_cmp} (payloads_of S.part heap.chunks.items (blocks heap S sound.laid)))) shown_less
        ∙ joined-remove_second _ _ start none_there

    value : heap_in later smaller ≡ without_large start (heap_in heap S)
    unfolding heap_in
    value = search (rules, words_kept, alike, less, picked-remove, payloads)

    pub gives_large : GivesLarge heap later start old new regions after
    gives_large = search (rules, gone_charge, shown_there, value, now, others, gone_count)
