-- The best hole is taken: its payload is one more, of whatever bytes it has, and all else stays.
use Rattle.std.proofs.Common.{rules, ◌≡◌, ℕ, ◌+◌, ◌<◌, ◌≤◌, cond, eqb, List, length, sym, ap, subst, ◌∙◌, ◌⊎◌, arith, Some}
use Rattle.std.proofs.lemmas.List.{get_or-map}
use Rattle.std.specs.Prelude.{None, slice_range}
use Rattle.std.specs.Cmp.{nat_cmp_total}
use Rattle.std.specs.Ordering.{nat_cmp}
use Rattle.std.specs.FinMap.{get, insert, from_entries, get-from_entries}
use Rattle.own_model.specs.BestFit.{Spot, best_hole, block_size, holes_of, taken, taken_in, taken_at, chunk_of}
use Rattle.own_model.specs.Entries.{value_of}
use Rattle.own_model.specs.Heap as model
use Rattle.own_model.specs.Heap.{Block, AreBlocks, bytes_in}
use Rattle.own_model.specs.HeapStep.{size_taken}
use Rattle.own_model.specs.NatMap.{joined}
use Rattle.own_model.specs.OwnHeap.{payload_start}
use Rattle.own_model.specs.Growth.{shape_taken}
use Rattle.own_model.specs.Region.{Region}
use Rattle.own_model.proofs.HeapBlockLemmas.{AreBlocks-taken, block_size-fits, hole_within}
use Rattle.own_model.proofs.HeapBestFitLemmas.{best_is_hole, IsHoleOf}
use Rattle.own_model.proofs.NatMapJoinedLemmas.{joined-insert_first}
use Rattle.own_model.proofs.NatMapLemmas.{same, get-insert, picked_alike}
use Rattle.avl_alloc.specs.declared.best_fit.BestFit.{BestFit}
use Rattle.avl_alloc.specs.Layout as avl
use Rattle.avl_alloc.specs.Layout.{heap_of, sizes_of, ChangesHoles, weigh_holes, whole}
use Rattle.avl_alloc.proofs.LayoutLemmas.{sound_told}
use Rattle.region_map.specs.Regions.{Regions}
use Rattle.dataspace_core.specs.Store.{Store, part, bytes_of}
use Rattle.dataspace_core.specs.Share.{Share, share_in}
use Rattle.heap_core.specs.declared.heap.Heap.{Heap}
use Rattle.heap_core.specs.declared.words.Chunk.{Chunk}
use Rattle.heap_core.specs.Heap.{IsSound, bytes_shown, chunk_at, heap_in, keys_in, large_regions, payer_of, payloads_of, share_at, shape_in, words_in}
use Rattle.heap_core.specs.Words.{around, words_of}
use Rattle.heap_core.proofs.ChangeLemmas.{later, large_apart, keeps_spaces, same_account, share_now, words_now}
use Rattle.heap_core.specs.Calls.{TakesHole}
use Rattle.heap_core.proofs.WordsLemmas.{length_keys}
use Rattle.heap_core.proofs.ChunkLemmas.{stand_in, words_are}
use Rattle.heap_core.proofs.FrameLemmas.{entries_same}
use Rattle.heap_core.proofs.HoleLemmas.{AreTold, are_told}
use Rattle.heap_core.proofs.PayloadLemmas.{no_chunk, entries_of, value_of-payloads, told-taken, payloads-more, payloads-same}
use Rattle.heap_core.proofs.StandLemmas.{told_outside}
use Rattle.heap_core.proofs.TakenLemmas.{other_chunk}

module _ (heap : Heap) (fit : BestFit) (n : ℕ) (hole : Spot) (old new : Store) (regions : Regions) (sound : IsSound heap old regions) (kept : around (keys_in heap) new ≡ around (keys_in heap) old)
    (best : best_hole (block_size n) (holes_of (heap_of heap.fit (words_of (keys_in heap) old))) ≡ Some hole)
    (changes : ChangesHoles (words_of (keys_in heap) old) (words_of (keys_in heap) new) (heap_of heap.fit (words_of (keys_in heap) old))) where
  abbrev account : ℕ
  account = payer_of heap

  abbrev S : Share
  S = share_at account old regions

  -- the blocks before
  abbrev H : model.Heap
  H = heap_of heap.fit (words_of (keys_in heap) old)

  H_is : heap_of heap.fit (words_in heap (part account old)) ≡ H
  H_is = ap (heap_of heap.fit) (words_are heap old regions sound)

  H_sound : avl.IsSound heap.fit (words_of (keys_in heap) old)
  H_sound = (stand_in heap old regions sound).sound

  before : AreTold H heap.fit (length heap.chunks.items)
  before = are_told heap.fit (words_of (keys_in heap) old) _ H_sound sound.laid.count

  -- the hole
  is_hole : IsHoleOf H hole × (block_size n ≤ hole.size)
  is_hole = best_is_hole (block_size n) H hole (sound_told heap.fit (words_of (keys_in heap) old) H_sound).blocks best

  in_heap : hole.chunk < length heap.chunks.items
  in_heap = subst (λ m. hole.chunk < m) before.count is_hole.0.within

  -- the blocks of its chunk then
  abbrev cut_blocks : List Block
  cut_blocks = taken_in (block_size n) hole.offset (chunk_of H hole.chunk)

  abbrev pub address : ℕ
  address = (chunk_at heap hole.chunk).start + hole.offset + 16

  abbrev pub payload : List ℕ
  payload = slice_range (bytes_of (part account new) (chunk_at heap hole.chunk).ds.0) (hole.offset + 16) (hole.offset + size_taken (block_size n) hole.size)

  one_more : (q : ℕ) → value_of q (entries_of (part account new) (chunk_at heap hole.chunk) cut_blocks) ≡ cond (eqb q address) (Some payload) (value_of q (entries_of (part account new) (chunk_at heap hole.chunk) (chunk_of H hole.chunk)))
  one_more q =
      let c = chunk_at heap hole.chunk in
      let bytes = bytes_of (part account new) c.ds.0 in
      value_of-payloads c.start 0 bytes cut_blocks q (AreBlocks-taken (block_size n) hole.size hole.offset (chunk_of H hole.chunk) (before.each hole.chunk in_heap) is_hole.0.there (block_size-fits n) is_hole.1)
      ∙ told-taken c.start bytes (block_size n) hole.size hole.offset (chunk_of H hole.chunk) q (before.each hole.chunk in_heap) is_hole.0.there
      ∙ ap (cond (eqb q address) (Some payload)) (sym (value_of-payloads c.start 0 bytes (chunk_of H hole.chunk) q (before.each hole.chunk in_heap)))

  -- the address lies in the hole's chunk
  none_before : (k : ℕ) → k < hole.chunk → value_of address (entries_of (part account new) (chunk_at heap k) (chunk_of H k)) ≡ None
  none_before k below =
      let there : k < length heap.chunks.items = let i = in_heap in omega (arith, below, i) in
      let within = hole_within hole.offset hole.size (chunk_of H hole.chunk) (before.each hole.chunk in_heap) is_hole.0.there in
      let least = within.0.least in
      let to = within.1 in
      let total = before.total hole.chunk in_heap in
      let outside = other_chunk heap old regions sound k hole.chunk address there in_heap (λ e. absurd (omega (arith, below, e))) (omega arith) (omega (arith, least, to, total)) in
      value_of-payloads (chunk_at heap k).start 0 (bytes_of (part account new) (chunk_at heap k).ds.0) (chunk_of H k) address (before.each k there)
      ∙ told_outside (chunk_at heap k).start (bytes_of (part account new) (chunk_at heap k).ds.0) (chunk_of H k) address (before.each k there)
      (subst (λ m. (address < (chunk_at heap k).start) ⊎ ((chunk_at heap k).start + m ≤ address)) (sym (before.total k there)) outside)

  -- so of all payloads of chunks there is one more
  small_now : from_entries {R = nat_cmp} (payloads_of (part account new) heap.chunks.items (taken n H)) ≡ insert (from_entries {R = nat_cmp} (payloads_of (part account old) heap.chunks.items H)) address payload
  small_now = same _ _ (λ q.
      get-from_entries nat_cmp_total _ q
      ∙ ap (λ o. value_of q (payloads_of (part account new) heap.chunks.items (taken_at (block_size n) o H))) best
      ∙ payloads-more (part account new) address payload heap.chunks.items H hole.chunk cut_blocks q in_heap is_hole.0.within (one_more q) none_before
      ∙ ap (cond (eqb q address) (Some payload)) (payloads-same (part account old) (part account new) q heap.chunks.items H
      (λ k there. entries_same heap fit old new regions sound kept H before.no_hole changes before.each before.total k there q)
      ∙ sym (get-from_entries nat_cmp_total _ q))
      ∙ sym (get-insert (from_entries {R = nat_cmp} (payloads_of (part account old) heap.chunks.items H)) address payload q))

  -- what large blocks show stays
  shown_now : bytes_shown (part account new).spaces (large_regions S) ≡ bytes_shown (part account old).spaces (large_regions S)
  shown_now = picked_alike (λ (r : Region). get (part account new).spaces r.of) (λ (r : Region). get (part account old).spaces r.of) (large_regions S) (λ q r h. (keeps_spaces heap fit old new regions sound kept).others r.of (large_apart heap fit old new regions sound kept q r h))

  chunks_then : heap_of fit (words_of (keys_in heap) new) ≡ taken n H → heap_of fit (words_in (later heap fit old new regions sound kept) (part account new)) ≡ taken n H
  chunks_then is = ap (heap_of fit) (words_now heap fit old new regions sound kept) ∙ is

  chunks : heap_of fit (words_of (keys_in heap) new) ≡ taken n H → heap_of fit (words_in (later heap fit old new regions sound kept) (part account new)) ≡ taken_at (block_size n) (Some hole) (heap_of heap.fit (words_in heap (part account old)))
  chunks is = chunks_then is ∙ ap (λ o. taken_at (block_size n) o H) best ∙ ap (taken_at (block_size n) (Some hole)) (sym H_is)

  payloads : heap_of fit (words_of (keys_in heap) new) ≡ taken n H →
      joined (from_entries {R = nat_cmp} (payloads_of (part account new) heap.chunks.items (heap_of fit (words_in (later heap fit old new regions sound kept) (part account new))))) (bytes_shown (part account new).spaces (large_regions S))
      ≡ insert (joined (from_entries {R = nat_cmp} (payloads_of (part account old) heap.chunks.items (heap_of heap.fit (words_in heap (part account old))))) (bytes_shown (part account old).spaces (large_regions S))) address payload
  payloads is = search (rules, chunks, chunks_then, small_now, shown_now, joined-insert_first, H_is)

  -- the heap then
  pub taken_value : heap_of fit (words_of (keys_in heap) new) ≡ taken n H →
      heap_in (later heap fit old new regions sound kept) (share_at account new regions)
      ≡ record (heap_in heap S) {
        shape = record { chunks = taken_at (block_size n) (Some hole) (shape_in heap (part account old)).chunks; growth = heap.growth };
        payloads = insert (heap_in heap S).payloads address payload;
      }
  unfolding heap_in share_in
  taken_value is = search (rules, later, share_now, chunks, payloads)

  -- where the payload starts, as the model has it
  start_is : payload_start (heap_in heap S) hole ≡ address
  unfolding heap_in
  start_is = ap (λ s. s + hole.offset + 16) (get_or-map (λ (c : Chunk). c.start) heap.chunks.items hole.chunk no_chunk 0 in_heap)

  value_at : heap_of fit (words_of (keys_in heap) new) ≡ taken n H →
      heap_in (later heap fit old new regions sound kept) (share_at account new regions)
      ≡ record (heap_in heap S) {
        shape = shape_taken n hole (heap_in heap S).shape;
        payloads = insert (heap_in heap S).payloads (payload_start (heap_in heap S) hole) payload;
      }
  unfolding heap_in share_in
  value_at is = taken_value is ∙ ap (λ a. record (heap_in heap S) { shape = shape_taken n hole (heap_in heap S).shape; payloads = insert (heap_in heap S).payloads a payload }) (sym start_is)

  pub takes_hole : heap_of fit (words_of (keys_in heap) new) ≡ taken n H → TakesHole heap (later heap fit old new regions sound kept) n hole old new regions
  takes_hole is = search (rules, length_keys, chunks, in_heap, value_at, same_account, keeps_spaces)
