-- What a heap's steps leave of a sound state.
use Rattle.std.proofs.Common.{rules, ◌≡◌, ℕ, ◌-◌, ◌/◌, ◌<◌, ◌≤◌, true, List, [], ◌∷◌, length, Some, ap, ◌∙◌, arith}
use Rattle.std.proofs.lemmas.Bool.Decides.{nat_tests}
use Rattle.std.proofs.lemmas.List.{length-append}
use Rattle.std.proofs.lemmas.Option.{none-some}
use Rattle.std.proofs.Math.Seq.{get_or-append_seam}
use Rattle.std.specs.Prelude.{None}
use Rattle.std.specs.FinMap.{get, insert}
use Rattle.trade_base.specs.Page.{page_of}
use Rattle.own_model.proofs.RegionApartLemmas.{LieApart-fewer, LieApart-insert}
use Rattle.own_model.proofs.HeapBlockLemmas.{hole_at, bytes-taken, bytes-given}
use Rattle.own_model.proofs.HeapBestFitLemmas.{IsHoleOf, best_is_hole}
use Rattle.own_model.proofs.ListLemmas.{all_then}
use Rattle.own_model.proofs.ByteLemmas.{length-zeros}
use Rattle.own_model.proofs.HeapRangeLemmas.{gap_place, gap_open}
use Rattle.own_model.proofs.HeapStepLemmas.{heap_lies, heap_taken, heap_given, heap_poked, heap_with_large, heap_without_large, heap_with_chunk}
use Rattle.own_model.proofs.NatMapJoinedLemmas.{joined-insert_second, joined_before, KeysApart-insert_second}
use Rattle.own_model.proofs.NatMapLemmas.{get-empty, value_at}
use Rattle.own_model.proofs.HeapOwnLemmas.{range_of_bytes, ranges-set, ranges-chunk, ranges-large, ranges-without}
use Rattle.own_model.proofs.StepLemmas.{accepted_growth, growth_fits, valid_some}
use Rattle.own_model.specs.Account.{Account, alloc_refusal}
use Rattle.own_model.specs.BestFit.{Spot, block_size, chunk_of, given_in}
use Rattle.own_model.specs.Growth.{Growth, most_chunks, least_large, is_large, hole_for, growth_of, growth_refusal, new_hole}
use Rattle.own_model.specs.Heap.{Block, Hole, AreBlocks, ArePages, IsChunk, bytes_in, header}
use Rattle.own_model.specs.HeapStep.{without_block, with_chunk, with_large, without_large}
use Rattle.own_model.specs.HeapWindow.{heap_low, heap_high, largest_machine}
use Rattle.own_model.specs.NatMap.{NatMap, joined}
use Rattle.own_model.specs.OwnHeap.{OwnHeap, no_heap, range_pages, ranges_of_heap, chunk_with, offset_of}
use Rattle.own_model.specs.OwnState.{OwnState, zeros, heap_ranges}
use Rattle.own_model.specs.OwnStep.{block_taken, chunk_added, grown_at, large_at, given_back, block_poked, own_heap_gap}
use Rattle.own_model.specs.Sliced.{ranges_of_blocks}
use Rattle.own_model.specs.Sound.{IsHeap, IsSound}

-- what has nothing under a key has nothing there once it has less
still_none : {X : Type 0} (all some : NatMap X) (q : ℕ) → ((k : ℕ) (x : X) → get some k ≡ Some x → get all k ≡ Some x) → get all q ≡ None → get some q ≡ None
still_none all some q before none = search (rules, none-some)

-- a heap of which nothing was asked is one
pub no_heap_is : IsHeap no_heap
no_heap_is = search (rules, none-some, get-empty, value_at)

module _ (s : OwnState) (h : IsSound s) where
  -- another heap that stands where the old one stood
  same_place : (account : Account) (heap : OwnHeap) → IsHeap heap → ranges_of_heap heap ≡ ranges_of_heap s.heap → IsSound (record s { account = account; heap = heap })
  same_place account heap is same = search rules

  -- one with a range more, at the first gap
  module _ (bytes start : ℕ) (gap : own_heap_gap bytes s ≡ Some start) (pages : ArePages bytes) where
    -- nothing starts there
    open_there : (get (ranges_of_blocks s.sliced) start ≡ None) × (get (ranges_of_heap s.heap) start ≡ None)
    open_there = gap_open s bytes start gap pages.some

    -- as many pages as the gap is for
    as_many : range_pages bytes ≡ bytes / 4096
    as_many = omega (arith, pages.some)

    one_more : (account : Account) (heap : OwnHeap) → IsHeap heap → ranges_of_heap heap ≡ insert (ranges_of_heap s.heap) start (range_of_bytes bytes) → IsSound (record s { account = account; heap = heap })
    one_more account heap is more = search (rules, KeysApart-insert_second, range_of_bytes, open_there, joined-insert_second, LieApart-insert, as_many, gap_place)

-- a block taken from a hole of the heap
taken_sound : (n : ℕ) (hole : Spot) (s : OwnState) → IsHoleOf s.heap.shape.chunks hole → block_size n ≤ hole.size → IsSound s → IsSound (block_taken n hole s).next
taken_sound n hole s is fits h = search (rules, same_place, heap_taken, heap_lies, ranges-set, bytes-taken)

-- the best hole is one, and large enough
pub best_of_sound : (n : ℕ) (hole : Spot) (s : OwnState) → hole_for n s.heap.shape ≡ Some hole → IsSound s → IsHoleOf s.heap.shape.chunks hole × (block_size n ≤ hole.size)
best_of_sound n hole s best h = best_is_hole (block_size n) s.heap.shape.chunks hole (all_then IsChunk AreBlocks s.heap.shape.chunks (λ blocks one. one.sizes) h.heap_parts.chunks) best

-- so from the best hole
pub sound_taken : (n : ℕ) (hole : Spot) (s : OwnState) → hole_for n s.heap.shape ≡ Some hole → IsSound s → IsSound (block_taken n hole s).next
sound_taken n hole s best h = grind (arith, nat_tests, best_of_sound, taken_sound)

-- a chunk more
sound_chunk : (growth : Growth) (start : ℕ) (s : OwnState) → ArePages growth.bytes → length s.heap.shape.chunks < most_chunks → own_heap_gap growth.bytes s ≡ Some start → IsSound s → IsSound (chunk_added growth start s)
sound_chunk growth start s pages room gap h =
    let free = (open_there s h growth.bytes start gap pages).1 in
    let e : bytes_in (Hole growth.bytes ∷ []) ≡ growth.bytes = omega arith in
    one_more s h growth.bytes start gap pages (chunk_added growth start s).account (with_chunk growth start s.heap)
    (heap_with_chunk (heap_high largest_machine) s.heap h.heap_parts (heap_lies s h) start growth.bytes free pages growth.next room)
    (ranges-chunk s.heap start free (Hole growth.bytes ∷ []) h.heap_parts.starts ∙ ap (λ n. insert (ranges_of_heap s.heap) start (range_of_bytes n)) e)

-- a chunk has whole pages, in which the block fits
record Suits (n : ℕ) (growth : Growth) : Type 0 where
  pages : ArePages growth.bytes
  fits : block_size n ≤ growth.bytes

-- so both growths have
suits : (n : ℕ) (s : OwnState) → Suits n (growth_of n s.heap.shape s.account)
suits n s = search (rules, growth_fits)

-- a heap that has grown: its last chunk is a hole, in which the block fits
pub record HasGrown (n start : ℕ) (s : OwnState) (growth : Growth) : Type 0 where
  pub sound : IsSound (chunk_added growth start s)
  pub hole : IsHoleOf (chunk_added growth start s).heap.shape.chunks (new_hole growth s.heap.shape)
  pub fits : block_size n ≤ growth.bytes

-- so one has whose growth is accepted
pub has_grown : (n start : ℕ) (s : OwnState) → growth_refusal n s.heap.shape s.account ≡ None → own_heap_gap (growth_of n s.heap.shape s.account).bytes s ≡ Some start →
    IsSound s → HasGrown n start s (growth_of n s.heap.shape s.account)
has_grown n start s accepted gap h =
    let growth : Growth = growth_of n s.heap.shape s.account in
    let chunk : List Block = Hole growth.bytes ∷ [] in
    let suit : Suits n growth = suits n s in
    let full = (accepted_growth n s.heap.shape s.account accepted).0 in
    let room : length s.heap.shape.chunks < most_chunks = grind (arith, nat_tests) in
    record {
      sound = sound_chunk growth start s suit.pages room gap h;
      hole = record {
        within = omega (arith, length-append s.heap.shape.chunks (chunk ∷ []));
        there = ap (hole_at 0) (get_or-append_seam s.heap.shape.chunks chunk [] []);
      };
      fits = suit.fits;
    }

-- a block in a new chunk
pub sound_grown : (n start : ℕ) (s : OwnState) → growth_refusal n s.heap.shape s.account ≡ None → own_heap_gap (growth_of n s.heap.shape s.account).bytes s ≡ Some start →
    IsSound s → IsSound (grown_at n (growth_of n s.heap.shape s.account) start s).next
sound_grown n start s accepted gap h =
    let growth : Growth = growth_of n s.heap.shape s.account in
    let grown : HasGrown n start s growth = has_grown n start s accepted gap h in
    taken_sound n (new_hole growth s.heap.shape) (chunk_added growth start s) grown.hole grown.fits grown.sound

-- a large block
pub sound_large : (n start : ℕ) (s : OwnState) → is_large n ≡ true → alloc_refusal n s.account ≡ None → own_heap_gap (page_of n) s ≡ Some start → IsSound s → IsSound (large_at n start s).next
sound_large n start s large accepted gap h =
    let some = valid_some n s.account accepted in
    let pages : ArePages (page_of n) = record { some = omega arith; whole = omega arith } in
    let free = (open_there s h (page_of n) start gap pages).1 in
    let least : least_large ≤ n = grind (arith, nat_tests) in
    one_more s h (page_of n) start gap pages (large_at n start s).next.account (with_large n start s.heap)
    (heap_with_large (heap_high largest_machine) s.heap h.heap_parts (heap_lies s h) start (page_of n) free pages (zeros (page_of n)) (omega (arith, least)) (length-zeros (page_of n)))
    (ranges-large s.heap start free (page_of n))

-- a block given back
pub sound_given : (address : ℕ) (payload : List ℕ) (s : OwnState) → get s.heap.payloads address ≡ Some payload → get s.heap.large address ≡ None → IsSound s → IsSound (given_back address None s).next
sound_given address payload s there small h =
    let i = chunk_with s.heap (address - header) in
    let offset = offset_of s.heap (address - header) in
    same_place s h s.account (without_block address s.heap) (heap_given (heap_high largest_machine) s.heap h.heap_parts (heap_lies s h) address payload there small)
    (ranges-set s.heap i (given_in offset (chunk_of s.heap.shape.chunks i)) (bytes-given offset (chunk_of s.heap.shape.chunks i)))

-- a large block given back
pub sound_large_given : (address bytes : ℕ) (s : OwnState) → get s.heap.large address ≡ Some bytes → IsSound s → IsSound (given_back address (Some bytes) s).next
sound_large_given address bytes s there h =
    let heap = without_large address s.heap in
    let before = ranges-without s.heap address h.heap_parts.apart in
    record {
      whole = h.whole;
      mapped = h.mapped;
      blocks = h.blocks;
      heap_parts = heap_without_large (heap_high largest_machine) s.heap h.heap_parts (heap_lies s h) address bytes there;
      starts = λ q some. still_none (ranges_of_heap s.heap) (ranges_of_heap heap) q before (h.starts q some);
      heap = LieApart-fewer heap_low (heap_high largest_machine) (heap_ranges s) (joined (ranges_of_blocks s.sliced) (ranges_of_heap heap))
          (joined_before (ranges_of_blocks s.sliced) (ranges_of_heap s.heap) (ranges_of_blocks s.sliced) (ranges_of_heap heap) h.starts (λ q r is. is) before) h.heap;
    }

-- bytes put over a payload's
pub sound_block_poked : (address offset : ℕ) (bytes payload : List ℕ) (s : OwnState) → get s.heap.payloads address ≡ Some payload → IsSound s → IsSound (block_poked address offset bytes (Some payload) s).next
sound_block_poked address offset bytes payload s there h = search (rules, same_place, heap_poked, heap_lies)
