-- What taking, growing and giving back leave of a heap: it stays one, and its payloads are those of its blocks.
use Rattle.std.proofs.Common.{rules, ◌≡◌, ◌≢◌, ℕ, ◌+◌, ◌-◌, ◌*◌, ◌<◌, ◌≤◌, ◌++◌, true, false, cond, eqb, List, [], ◌∷◌, length, nat_lt, Some, refl, sym, ap, subst, ◌∙◌, inl, inr, arith, set, get_or, eqb-true, option_and_then}
use Rattle.std.proofs.lemmas.Bool.{cases_eq}
use Rattle.std.proofs.lemmas.Bool.Decides.{nat_tests}
use Rattle.std.proofs.lemmas.List.{length-set, get_or-set_same, get_or-set_other, get_or_past, get_or_append_left, length-append}
use Rattle.std.proofs.Math.Seq.{get_or-append_seam}
use Rattle.std.proofs.lemmas.Option.{none-some, same_Some}
use Rattle.std.specs.Prelude.{Option, None, IsSome}
use Rattle.std.specs.Cmp.{nat_cmp_total}
use Rattle.std.specs.Option.{option_map, option_or}
use Rattle.std.specs.FinMap.{get, insert, remove, get-from_entries}
use Rattle.own_model.proofs.HeapBlockLemmas.{used_within, hole_within, used-taken, used-given, bytes-taken, bytes-given, AreBlocks-taken, AreBlocks-given, block_size-fits}
use Rattle.own_model.proofs.HeapBestFitLemmas.{IsHoleOf}
use Rattle.own_model.proofs.HeapChunkLemmas.{Lies, chunk_there, starts_differ, chunk_from_is, chunk_from_lies, chunk_from-append, chunk_from_past, chunk_from-set}
use Rattle.own_model.proofs.ListLemmas.{all_within, all_set, all_append}
use Rattle.own_model.proofs.ByteLemmas.{length-zeros, length-with_part}
use Rattle.own_model.proofs.EntryLemmas.{KeysDiffer-append}
use Rattle.own_model.proofs.NatMapJoinedLemmas.{get-joined_first, get-joined_apart, joined_free}
use Rattle.own_model.proofs.NatMapLemmas.{get-picked, before_remove, each_after_insert, apart_from_free, get-insert, get-remove, get-insert_other}
use Rattle.own_model.proofs.HeapOwnLemmas.{range_of_bytes, large_range, chunk_map, chunk_ranges-set, chunk_ranges-append, chunk_map-append}
use Rattle.own_model.specs.BestFit.{Spot, block_size, chunk_of, used_at, taken_in, given_in}
use Rattle.own_model.specs.Entries.{KeysDiffer}
use Rattle.own_model.specs.Growth.{most_chunks, least_large}
use Rattle.own_model.specs.Heap.{Heap, Block, Hole, ArePages, IsChunk, bytes_in}
use Rattle.own_model.specs.HeapStep.{payload_size, size_taken, with_block, without_block, without_large, with_poked}
use Rattle.own_model.specs.HeapWindow.{heap_low, heap_high, largest_machine}
use Rattle.own_model.specs.NatMap.{NatMap}
use Rattle.own_model.specs.OwnHeap.{OwnHeap, start_of, chunk_ranges, ranges_of_heap, range_pages, ranges_of_large, chunk_from, chunk_with, offset_of}
use Rattle.own_model.specs.OwnState.{OwnState, zeros, heap_ranges}
use Rattle.own_model.specs.Sliced.{ranges_of_blocks}
use Rattle.own_model.proofs.RegionApartLemmas.{LieApart-fewer}
use Rattle.own_model.specs.Region.{Region, overlap}
use Rattle.own_model.specs.Sound.{LieApart, IsHeap, IsLarge, IsSound}

-- so many bytes lie within the range that starts at an address
pub record IsWithin (heap : OwnHeap) (start address size : ℕ) : Type 0 where
  pub range : Region
  pub there : get (ranges_of_heap heap) start ≡ Some range
  pub from : start ≤ address
  pub to : address + size ≤ start + range.pages * 4096

-- an address in a range of pages lies in no other that lies apart from it
pub not_both : (a p b q address : ℕ) → overlap a p b q ≡ false → a ≤ address → address < a + p * 4096 → b ≤ address → address < b + q * 4096 → ⊥
not_both a p b q address apart one two three four = grind (arith, nat_tests)

module _ (high : ℕ) (heap : OwnHeap) (h : IsHeap heap) (lie : LieApart heap_low high (ranges_of_heap heap)) where
  abbrev pub chunks : Heap
  chunks = heap.shape.chunks

  -- the range of a chunk
  pub chunk_in_map : (i : ℕ) → i < length chunks → get (chunk_map heap.starts chunks) (start_of heap i) ≡ Some (range_of_bytes (bytes_in (chunk_of chunks i)))
  chunk_in_map i within = get-from_entries nat_cmp_total (chunk_ranges heap.starts chunks) (start_of heap i) ∙ chunk_there heap.starts chunks i h.starts h.differ within

  pub chunk_range : (i : ℕ) → i < length chunks → get (ranges_of_heap heap) (start_of heap i) ≡ Some (range_of_bytes (bytes_in (chunk_of chunks i)))
  chunk_range i within = search (rules, get-joined_first, chunk_map, range_of_bytes, chunk_in_map)

  -- a chunk fills whole pages
  pub chunk_is : (i : ℕ) → i < length chunks → IsChunk (chunk_of chunks i)
  chunk_is i within = all_within IsChunk chunks i [] h.chunks within

  -- an address lies in one chunk at most
  lies_once : (j i address : ℕ) → j < i → i < length chunks → Lies heap.starts chunks i address → ¬ Lies heap.starts chunks j address
  lies_once j i address less within here there =
      let before : j < length chunks = omega (arith, less, within) in
      let apart = lie.apart (start_of heap j) (start_of heap i) (range_of_bytes (bytes_in (chunk_of chunks j))) (range_of_bytes (bytes_in (chunk_of chunks i)))
      (chunk_range j before) (chunk_range i within) (starts_differ heap.starts chunks j i h.starts h.differ less within) in
      not_both (start_of heap j) (range_pages (bytes_in (chunk_of chunks j))) (start_of heap i) (range_pages (bytes_in (chunk_of chunks i))) address apart
      there.low (omega (arith, there.high, (chunk_is j before).pages.whole)) here.low (omega (arith, here.high, (chunk_is i within).pages.whole))

  module _ (i offset : ℕ) (within : i < length chunks) (inside : offset < bytes_in (chunk_of chunks i)) where
    -- an address in a chunk is that chunk's
    pub chunk_with-is : chunk_with heap (start_of heap i + offset) ≡ i
    chunk_with-is =
        let here : Lies heap.starts chunks i (start_of heap i + offset) = record { low = omega arith; high = omega (arith, inside) } in
        omega (arith, chunk_from_is 0 heap.starts chunks i (start_of heap i + offset) h.starts within here (λ j less. lies_once j i (start_of heap i + offset) less within here))

    -- as far into it
    pub offset_of-is : offset_of heap (start_of heap i + offset) ≡ offset
    offset_of-is = ap (λ k. start_of heap i + offset - start_of heap k) chunk_with-is ∙ omega arith

  -- ---- payloads

  -- the used block whose header starts at an address
  abbrev pub used_of : ℕ → Option ℕ
  used_of address = used_at (offset_of heap address) (chunk_of chunks (chunk_with heap address))

  -- a block that is used lies in a chunk
  pub record IsUsed (address size : ℕ) : Type 0 where
    pub within : chunk_with heap address < length chunks
    pub at : start_of heap (chunk_with heap address) + offset_of heap address ≡ address
    pub used : used_at (offset_of heap address) (chunk_of chunks (chunk_with heap address)) ≡ Some size
    pub least : 48 ≤ size
    pub inside : offset_of heap address + size ≤ bytes_in (chunk_of chunks (chunk_with heap address))
    pub above : heap_low ≤ address

  -- so it does
  pub is_used : (address size : ℕ) → used_of address ≡ Some size → IsUsed address size
  is_used address size used =
      let at = chunk_from_lies 0 heap.starts chunks address h.starts in
      let place : chunk_with heap address ≡ at.place = omega (arith, at.is) in
      elim at.lies [
        | inr past ↦
            let e : chunk_of chunks (chunk_with heap address) ≡ [] = get_or_past chunks (chunk_with heap address) [] (omega (arith, place, past)) in
            absurd (none-some size (sym (ap (used_at (offset_of heap address)) e) ∙ used))
        | inl there ↦
            let lies = subst (λ k. (k < length chunks) × Lies heap.starts chunks k address) (sym place) there in
            let inside = used_within (offset_of heap address) size (chunk_of chunks (chunk_with heap address)) (chunk_is (chunk_with heap address) lies.0).sizes used in
            let window = lie.within (start_of heap (chunk_with heap address)) (range_of_bytes (bytes_in (chunk_of chunks (chunk_with heap address)))) (chunk_range (chunk_with heap address) lies.0) in
            record {
              within = lies.0;
              at = omega (arith, lies.1.low);
              used = used;
              least = inside.0.least;
              inside = inside.1;
              above = omega (arith, window.from_low, lies.1.low);
            }
      ]

  -- what lies in a chunk is no large block's start, but where the chunk starts
  pub no_large : (i offset : ℕ) → i < length chunks → 0 < offset → offset < bytes_in (chunk_of chunks i) → get heap.large (start_of heap i + offset) ≡ None
  no_large i offset within some inside = elim (get heap.large (start_of heap i + offset)) as (λ o. get heap.large (start_of heap i + offset) ≡ o → o ≡ None) [
    | None ↦ λ _. refl
    | Some bytes ↦ λ there.
        let at = start_of heap i + offset in
        let both = get-joined_apart (chunk_map heap.starts chunks) (ranges_of_large heap.large) at (range_of_bytes bytes) h.apart (large_range heap.large at bytes there) in
        let apart = lie.apart (start_of heap i) at (range_of_bytes (bytes_in (chunk_of chunks i))) (range_of_bytes bytes) (chunk_range i within) both (λ e. absurd (omega (arith, e, some))) in
        let large = (h.large at bytes there).pages in
        absurd (not_both (start_of heap i) (range_pages (bytes_in (chunk_of chunks i))) at (range_pages bytes) at apart (omega arith) (omega (arith, inside, (chunk_is i within).pages.whole)) (omega arith) (omega (arith, large.some)))
  ] refl

  -- a chunk starts in the heap window
  start_above : (i : ℕ) → i < length chunks → heap_low ≤ start_of heap i
  start_above i within = (lie.within (start_of heap i) (range_of_bytes (bytes_in (chunk_of chunks i))) (chunk_range i within)).from_low

  -- an address lies in its chunk
  lies_in : (address : ℕ) → chunk_with heap address < length chunks → Lies heap.starts chunks (chunk_with heap address) address
  lies_in address within =
      let at = chunk_from_lies 0 heap.starts chunks address h.starts in
      let place : at.place ≡ chunk_with heap address = omega (arith, at.is) in
      elim at.lies [
        | inr past ↦ absurd (omega (arith, within, place, past))
        | inl there ↦ subst (λ k. Lies heap.starts chunks k address) place there.1
      ]

  -- which block's payload an address is, of chunks one of which has other blocks, but as many bytes
  module _ (i offset : ℕ) (within : i < length chunks) (blocks : List Block) (as_many : bytes_in blocks ≡ bytes_in (chunk_of chunks i)) (inside : offset < bytes_in (chunk_of chunks i))
      (o : Option ℕ) (changed : (y : ℕ) → used_at y blocks ≡ cond (eqb y offset) o (used_at y (chunk_of chunks i))) where
    -- the payload of what starts there
    abbrev payload_of : ℕ
    payload_of = start_of heap i + offset + 16

    -- in the chunk of an address
    used_in : (address k : ℕ) → k ≡ chunk_with heap (address - 16) →
        used_at (address - 16 - start_of heap k) (chunk_of (set chunks i blocks) k) ≡ cond (eqb address payload_of) o (used_at (address - 16 - start_of heap k) (chunk_of chunks k))
    used_in address k is = elim (cases_eq address payload_of) [
      | inl same ↦
          let back : address - 16 ≡ start_of heap i + offset = omega (arith, same) in
          let here : k ≡ i = is ∙ ap (chunk_with heap) back ∙ chunk_with-is i offset within inside in
          let e : eqb address payload_of ≡ true = grind (arith, nat_tests) in
          let x : address - 16 - start_of heap k ≡ offset = ap (λ j. address - 16 - start_of heap j) here ∙ omega (arith, back) in
          let f : eqb (address - 16 - start_of heap k) offset ≡ true = grind (arith, nat_tests) in
          ap (used_at (address - 16 - start_of heap k)) (ap (chunk_of (set chunks i blocks)) here ∙ get_or-set_same chunks i blocks [] within)
          ∙ changed (address - 16 - start_of heap k)
          ∙ ap (λ b. cond b o (used_at (address - 16 - start_of heap k) (chunk_of chunks i))) f
          ∙ sym (ap (λ b. cond b o (used_at (address - 16 - start_of heap k) (chunk_of chunks k))) e)
      | inr differ ↦
          let e : eqb address payload_of ≡ false = grind (arith, nat_tests) in
          let unchanged : used_at (address - 16 - start_of heap k) (chunk_of (set chunks i blocks) k) ≡ used_at (address - 16 - start_of heap k) (chunk_of chunks k)
          = elim (cases_eq k i) [
            | inr other ↦ ap (used_at (address - 16 - start_of heap k)) (get_or-set_other chunks i k blocks [] other)
            | inl here ↦
                let low = (lies_in (address - 16) (subst (λ j. j < length chunks) (sym here ∙ is) within)).low in
                let low' = subst (λ j. start_of heap j ≤ address - 16) (sym is ∙ here) low in
                let above = start_above i within in
                let from : start_of heap k ≡ start_of heap i = ap (start_of heap) here in
                let f : eqb (address - 16 - start_of heap k) offset ≡ false = grind (arith, nat_tests) in
                ap (used_at (address - 16 - start_of heap k)) (ap (chunk_of (set chunks i blocks)) here ∙ get_or-set_same chunks i blocks [] within)
                ∙ changed (address - 16 - start_of heap k)
                ∙ ap (λ b. cond b o (used_at (address - 16 - start_of heap k) (chunk_of chunks i))) f
                ∙ ap (λ j. used_at (address - 16 - start_of heap k) (chunk_of chunks j)) (sym here)
          ] in
          unchanged ∙ sym (ap (λ b. cond b o (used_at (address - 16 - start_of heap k) (chunk_of chunks k))) e)
    ]

    -- so in all
    pub used_after : (address : ℕ) →
        used_at (address - 16 - start_of heap (chunk_from 0 heap.starts (set chunks i blocks) (address - 16))) (chunk_of (set chunks i blocks) (chunk_from 0 heap.starts (set chunks i blocks) (address - 16)))
        ≡ cond (eqb address payload_of) o (used_of (address - 16))
    used_after address =
        ap (λ k. used_at (address - 16 - start_of heap k) (chunk_of (set chunks i blocks) k)) (chunk_from-set 0 heap.starts chunks i blocks (address - 16) as_many)
        ∙ used_in address (chunk_with heap (address - 16)) refl

    -- the payloads are those of the blocks still, where they changed as the block at that offset did
    pub filled_after : (payloads : NatMap (List ℕ)) (p : Option (List ℕ)) → offset + 16 < bytes_in (chunk_of chunks i) →
        ((address : ℕ) → get payloads address ≡ cond (eqb address payload_of) p (get heap.payloads address)) → option_map length p ≡ option_map (λ n. n - 16) o →
        (address : ℕ) → option_map length (get payloads address) ≡ payload_size (record heap { shape = record heap.shape { chunks = set chunks i blocks }; payloads = payloads }) address
    filled_after payloads p behind are as_long address =
        ap (option_map length) (are address)
        ∙ elim (eqb address payload_of) as (λ b. eqb address payload_of ≡ b → option_map length (cond b p (get heap.payloads address)) ≡ option_or (get heap.large address) (option_map (λ n. n - 16) (cond b o (used_of (address - 16))))) [
          | true ↦ λ here.
              let at : start_of heap i + (offset + 16) ≡ address = grind (arith, nat_tests) in
              let none : get heap.large address ≡ None = ap (get heap.large) (sym at) ∙ no_large i (offset + 16) within (omega arith) behind in
              as_long ∙ ap (λ l. option_or l (option_map (λ n. n - 16) o)) (sym none)
          | false ↦ λ _. h.filled address
        ] refl
        ∙ ap (λ u. option_or (get heap.large address) (option_map (λ n. n - 16) u)) (sym (used_after address))

  -- a heap one of whose chunks has other blocks, but as many bytes
  changed_is : (i : ℕ) (blocks : List Block) (payloads : NatMap (List ℕ)) → IsChunk blocks → bytes_in blocks ≡ bytes_in (chunk_of chunks i) →
      ((address : ℕ) → option_map length (get payloads address) ≡ payload_size (record heap { shape = record heap.shape { chunks = set chunks i blocks }; payloads = payloads }) address) →
      IsHeap (record heap { shape = record heap.shape { chunks = set chunks i blocks }; payloads = payloads })
  changed_is i blocks payloads one as_many filled = search (rules, all_set, length-set, chunk_ranges-set)

  -- a block taken leaves a heap
  pub heap_taken : (n : ℕ) (hole : Spot) → IsHoleOf chunks hole → block_size n ≤ hole.size → IsHeap (with_block n hole heap)
  heap_taken n hole is fits =
      let blocks = chunk_of chunks hole.chunk in
      let one = chunk_is hole.chunk is.within in
      let inside = hole_within hole.offset hole.size blocks one.sizes is.there in
      let least = inside.0.least in
      let after = taken_in (block_size n) hole.offset blocks in
      let as_many = bytes-taken (block_size n) hole.offset blocks in
      let payload = zeros (size_taken (block_size n) hole.size - 16) in
      changed_is hole.chunk after (insert heap.payloads (start_of heap hole.chunk + hole.offset + 16) payload)
      (record {
        sizes = AreBlocks-taken (block_size n) hole.size hole.offset blocks one.sizes is.there (block_size-fits n) fits;
        pages = subst ArePages (sym as_many) one.pages;
      }) as_many
      (filled_after hole.chunk hole.offset is.within after as_many (omega (arith, inside.1)) (Some (size_taken (block_size n) hole.size))
      (λ y. used-taken (block_size n) hole.size y hole.offset blocks one.sizes is.there)
      (insert heap.payloads (start_of heap hole.chunk + hole.offset + 16) payload) (Some payload) (omega (arith, inside.1))
      (λ address. get-insert heap.payloads (start_of heap hole.chunk + hole.offset + 16) payload address)
      (ap (λ l. Some l) (length-zeros (size_taken (block_size n) hole.size - 16))))

  -- what starts no large block is a used block's payload
  pub payload_used : (address : ℕ) (payload : List ℕ) → get heap.payloads address ≡ Some payload → get heap.large address ≡ None → (size : ℕ) × IsUsed (address - 16) size × (length payload ≡ size - 16)
  payload_used address payload there small = grind (arith, nat_tests, none-some, is_used, same_Some)

  -- a block given back leaves a heap
  pub heap_given : (address : ℕ) (payload : List ℕ) → get heap.payloads address ≡ Some payload → get heap.large address ≡ None → IsHeap (without_block address heap)
  heap_given address payload there small =
      let used = payload_used address payload there small in
      let is = used.1 in
      let i = chunk_with heap (address - 16) in
      let offset = offset_of heap (address - 16) in
      let blocks = chunk_of chunks i in
      let one = chunk_is i is.within in
      let after = given_in offset blocks in
      let as_many = bytes-given offset blocks in
      let at : start_of heap i + offset + 16 ≡ address = omega (arith, is.at, is.above) in
      let inside = is.inside in
      let least = is.least in
      changed_is i after (remove heap.payloads address)
      (record {
        sizes = AreBlocks-given used.0 offset blocks one.sizes is.used;
        pages = subst ArePages (sym as_many) one.pages;
      }) as_many
      (filled_after i offset is.within after as_many (omega arith) None
      (λ y. used-given used.0 y offset blocks one.sizes is.used)
      (remove heap.payloads address) None (omega arith)
      (λ q. get-remove heap.payloads address q ∙ ap (λ k. cond (eqb q k) None (get heap.payloads q)) (sym at)) refl)

  -- other bytes, as many, of a payload leave a heap
  pub heap_poked : (address offset : ℕ) (payload part : List ℕ) → get heap.payloads address ≡ Some payload → IsHeap (with_poked address payload offset part heap)
  heap_poked address offset payload part there = search (rules, get-insert, length-with_part, eqb-true)

  -- no used block's payload starts where a large block does
  large_alone : (address bytes : ℕ) → get heap.large address ≡ Some bytes → used_of (address - 16) ≡ None
  large_alone address bytes there = elim (used_of (address - 16)) as (λ u. used_of (address - 16) ≡ u → u ≡ None) [
    | None ↦ λ _. refl
    | Some size ↦ λ used.
        let is = is_used (address - 16) size used in
        let i = chunk_with heap (address - 16) in
        let offset = offset_of heap (address - 16) in
        let least = is.least in
        let at : start_of heap i + (offset + 16) ≡ address = omega (arith, is.at, is.above) in
        absurd (none-some bytes (sym (ap (get heap.large) (sym at) ∙ no_large i (offset + 16) is.within (omega arith) (omega (arith, is.inside))) ∙ there))
  ] refl

  -- what is no large block's range is none once another large block has gone
  gone : (address q : ℕ) → option_and_then (λ n. Some (range_of_bytes n)) (get heap.large q) ≡ None → option_and_then (λ n. Some (range_of_bytes n)) (get (remove heap.large address) q) ≡ None
  gone address q none = search (rules, range_of_bytes, get-remove)

  -- a large block that goes leaves a heap
  pub heap_without_large : (address bytes : ℕ) → get heap.large address ≡ Some bytes → IsHeap (without_large address heap)
  heap_without_large address bytes there = record {
    chunks = h.chunks;
    starts = h.starts;
    few = h.few;
    differ = h.differ;
    large = λ start n is. h.large start n (before_remove heap.large address start n is);
    apart = λ q some. get-picked (λ n. Some (range_of_bytes n)) (remove heap.large address) q ∙ gone address q (sym (get-picked (λ n. Some (range_of_bytes n)) heap.large q) ∙ h.apart q some);
    filled = λ q. ap (option_map length) (get-remove heap.payloads address q)
        ∙ elim (eqb q address) as (λ b. eqb q address ≡ b → option_map length (cond b None (get heap.payloads q)) ≡ option_or (cond b None (get heap.large q)) (option_map (λ n. n - 16) (used_of (q - 16)))) [
          | true ↦ λ same. ap (option_map (λ n. n - 16)) (sym (ap (λ k. used_of (k - 16)) (eqb-true q address same) ∙ large_alone address bytes there))
          | false ↦ λ _. h.filled q
        ] refl
        ∙ ap (λ l. option_or l (option_map (λ n. n - 16) (used_of (q - 16)))) (sym (get-remove heap.large address q));
  }

  -- ---- what stands at a free address

  module _ (start bytes : ℕ) (free : get (ranges_of_heap heap) start ≡ None) (pages : ArePages bytes) where
    -- neither a chunk starts there nor a large block
    free_of_both : (get (chunk_map heap.starts chunks) start ≡ None) × (get (ranges_of_large heap.large) start ≡ None)
    free_of_both = joined_free (chunk_map heap.starts chunks) (ranges_of_large heap.large) start free

    -- a large block more leaves a heap
    pub heap_with_large : (payload : List ℕ) → least_large ≤ bytes → length payload ≡ bytes → IsHeap (record heap { large = insert heap.large start bytes; payloads = insert heap.payloads start payload })
    heap_with_large payload least long = record {
      chunks = h.chunks;
      starts = h.starts;
      few = h.few;
      differ = h.differ;
      large = each_after_insert heap.large start bytes (λ at n. IsLarge n) h.large (record { pages = pages; least = least });
      apart = λ q some.
          let other : q ≢ start = apart_from_free (chunk_map heap.starts chunks) start q free_of_both.0 some in
          get-picked (λ n. Some (range_of_bytes n)) (insert heap.large start bytes) q
          ∙ ap (option_and_then (λ n. Some (range_of_bytes n))) (get-insert_other heap.large start bytes q other)
          ∙ sym (get-picked (λ n. Some (range_of_bytes n)) heap.large q) ∙ h.apart q some;
      filled = λ q. ap (option_map length) (get-insert heap.payloads start payload q)
          ∙ elim (eqb q start) as (λ b. option_map length (cond b (Some payload) (get heap.payloads q)) ≡ option_or (cond b (Some bytes) (get heap.large q)) (option_map (λ n. n - 16) (used_of (q - 16)))) [
            | true ↦ ap (λ n. Some n) long
            | false ↦ h.filled q
          ]
          ∙ ap (λ l. option_or l (option_map (λ n. n - 16) (used_of (q - 16)))) (sym (get-insert heap.large start bytes q));
    }

    -- a new chunk is one hole
    abbrev new_blocks : List Block
    new_blocks = Hole bytes ∷ []

    -- of as many bytes
    new_bytes : bytes_in new_blocks ≡ bytes
    new_bytes = omega arith

    -- which is a chunk
    new_is_chunk : IsChunk new_blocks
    new_is_chunk = search (rules, new_bytes)

    -- nothing in it is used
    none_used : (k x : ℕ) → length chunks ≤ k → used_at x (chunk_of (chunks ++ new_blocks ∷ []) k) ≡ None
    none_used k x past = elim (cases_eq k (length chunks)) [
      | inl last ↦
          ap (used_at x) (ap (chunk_of (chunks ++ new_blocks ∷ [])) last ∙ get_or-append_seam chunks new_blocks [] [])
          ∙ elim (nat_lt x bytes) as (λ b. cond b None (used_at (x - bytes) []) ≡ None) [ true ↦ refl | false ↦ refl ]
      | inr beyond ↦ ap (used_at x) (get_or_past (chunks ++ new_blocks ∷ []) k [] (omega (arith, past, beyond, length-append chunks (new_blocks ∷ []))))
    ]

    -- so the same blocks are used as before
    used_grown : (address : ℕ) →
        used_at (address - get_or (heap.starts ++ start ∷ []) (chunk_from 0 (heap.starts ++ start ∷ []) (chunks ++ new_blocks ∷ []) address) 0)
        (chunk_of (chunks ++ new_blocks ∷ []) (chunk_from 0 (heap.starts ++ start ∷ []) (chunks ++ new_blocks ∷ []) address)) ≡ used_of address
    used_grown address =
        let at = chunk_from_lies 0 heap.starts chunks address h.starts in
        let place : chunk_with heap address ≡ at.place = omega (arith, at.is) in
        elim at.lies [
          | inl there ↦
              let still : chunk_from 0 (heap.starts ++ start ∷ []) (chunks ++ new_blocks ∷ []) address ≡ at.place
              = omega (arith, chunk_from-append 0 heap.starts chunks address start new_blocks h.starts at.place there.0 at.is) in
              ap (λ k. used_at (address - get_or (heap.starts ++ start ∷ []) k 0) (chunk_of (chunks ++ new_blocks ∷ []) k)) still
              ∙ ap (λ s. used_at (address - s) (chunk_of (chunks ++ new_blocks ∷ []) at.place)) (get_or_append_left heap.starts (start ∷ []) 0 at.place (omega (arith, there.0, h.starts)))
              ∙ ap (used_at (address - start_of heap at.place)) (get_or_append_left chunks (new_blocks ∷ []) [] at.place there.0)
              ∙ ap (λ k. used_at (address - start_of heap k) (chunk_of chunks k)) (sym place)
          | inr past ↦
              let beyond = chunk_from_past 0 heap.starts chunks address start new_blocks h.starts (omega (arith, at.is, past)) in
              none_used (chunk_from 0 (heap.starts ++ start ∷ []) (chunks ++ new_blocks ∷ []) address) _ (omega (arith, beyond))
              ∙ sym (ap (used_at (offset_of heap address)) (get_or_past chunks (chunk_with heap address) [] (omega (arith, place, past))))
        ]

    -- a chunk more leaves a heap
    pub heap_with_chunk : (next : ℕ) → length chunks < most_chunks → IsHeap (record heap { shape = record { chunks = chunks ++ new_blocks ∷ []; growth = next }; starts = heap.starts ++ start ∷ [] })
    heap_with_chunk next room = record {
      chunks = all_append IsChunk chunks (new_blocks ∷ []) h.chunks (new_is_chunk, tt);
      starts = omega (arith, h.starts, length-append heap.starts (start ∷ []), length-append chunks (new_blocks ∷ []));
      few = omega (arith, room, length-append chunks (new_blocks ∷ []));
      differ = subst KeysDiffer (sym (chunk_ranges-append heap.starts chunks start new_blocks h.starts))
          (KeysDiffer-append (chunk_ranges heap.starts chunks) start (range_of_bytes (bytes_in new_blocks)) h.differ (sym (get-from_entries nat_cmp_total (chunk_ranges heap.starts chunks) start) ∙ free_of_both.0));
      large = h.large;
      apart = λ q some. elim (cases_eq q start) [
        | inl here ↦ ap (get (ranges_of_large heap.large)) here ∙ free_of_both.1
        | inr other ↦ h.apart q (subst IsSome (ap (λ m. get m q) (chunk_map-append heap.starts chunks start new_blocks h.starts free_of_both.0) ∙ get-insert_other (chunk_map heap.starts chunks) start (range_of_bytes (bytes_in new_blocks)) q other) some)
      ];
      filled = λ q. h.filled q ∙ ap (λ u. option_or (get heap.large q) (option_map (λ n. n - 16) u)) (sym (used_grown (q - 16)));
    }

  -- ---- where payloads lie

  module _ (address : ℕ) (payload : List ℕ) (there : get heap.payloads address ≡ Some payload) where
    -- a large block's payload is its range
    pub large_within : (bytes : ℕ) → get heap.large address ≡ Some bytes → IsWithin heap address address (length payload)
    large_within bytes large =
        let long : length payload ≡ bytes = same_Some (length payload) bytes (ap (option_map length) (sym there) ∙ h.filled address ∙ ap (λ l. option_or l (option_map (λ n. n - 16) (used_of (address - 16)))) large) in
        record {
          range = range_of_bytes bytes;
          there = get-joined_apart (chunk_map heap.starts chunks) (ranges_of_large heap.large) address (range_of_bytes bytes) h.apart (large_range heap.large address bytes large);
          from = omega arith;
          to = omega (arith, long, (h.large address bytes large).pages.whole);
        }

    -- a used block's lies within its chunk
    pub small_within : (size : ℕ) → IsUsed (address - 16) size → length payload ≡ size - 16 → IsWithin heap (start_of heap (chunk_with heap (address - 16))) address (length payload)
    small_within size is long = record {
      range = range_of_bytes (bytes_in (chunk_of chunks (chunk_with heap (address - 16))));
      there = chunk_range (chunk_with heap (address - 16)) is.within;
      from = omega (arith, is.at, is.above);
      to = omega (arith, is.at, is.above, is.inside, is.least, long, (chunk_is (chunk_with heap (address - 16)) is.within).pages.whole);
    }

    -- no payload is empty
    pub payload_some : 0 < length payload
    payload_some = elim (get heap.large address) as (λ o. get heap.large address ≡ o → 0 < length payload) [
      | Some bytes ↦ λ large.
          let long : length payload ≡ bytes = same_Some (length payload) bytes (ap (option_map length) (sym there) ∙ h.filled address ∙ ap (λ l. option_or l (option_map (λ n. n - 16) (used_of (address - 16)))) large) in
          omega (arith, long, (h.large address bytes large).least)
      | None ↦ λ small. let used = payload_used address payload there small in omega (arith, used.2, used.1.least)
    ] refl

    -- so each payload lies within a range
    pub payload_within_range : (start : ℕ) × IsWithin heap start address (length payload)
    payload_within_range = search (rules, large_within, payload_used, small_within)

-- ---- the heap of a sound state

module _ (s : OwnState) (h : IsSound s) where
  -- what the heap has stands in the window
  pub heap_range : (start : ℕ) (r : Region) → get (ranges_of_heap s.heap) start ≡ Some r → get (heap_ranges s) start ≡ Some r
  heap_range start r there = get-joined_apart (ranges_of_blocks s.sliced) (ranges_of_heap s.heap) start r h.starts there

  -- so it lies apart
  pub heap_lies : LieApart heap_low (heap_high largest_machine) (ranges_of_heap s.heap)
  heap_lies = LieApart-fewer heap_low (heap_high largest_machine) (heap_ranges s) (ranges_of_heap s.heap) heap_range h.heap
