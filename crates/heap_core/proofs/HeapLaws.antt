-- Laws for callers: what a poke of a payload leaves of a heap.
use Rattle.std.proofs.Common.{rules, ◌≡◌, ◌≢◌, ℕ, ◌+◌, ◌-◌, ◌<◌, ◌≤◌, true, cond, eqb, List, [], length, get_or, refl, sym, ap, subst, ◌∙◌, ◌⊎◌, unwrap_or, arith, Some, is_some}
use Rattle.std.specs.Prelude.{Option, None, slice_range}
use Rattle.std.specs.Cmp.{nat_cmp_total}
use Rattle.std.specs.Ordering.{nat_cmp}
use Rattle.std.specs.FinMap.{get, insert, from_entries, get-from_entries}
use Rattle.trade_base.specs.Bytes.{with_bytes}
use Rattle.own_model.specs.BestFit.{used_at, chunk_of}
use Rattle.own_model.specs.Entries.{value_of}
use Rattle.own_model.specs.Heap as model
use Rattle.own_model.specs.Heap.{AreBlocks, bytes_in}
use Rattle.own_model.specs.NatMap.{joined}
use Rattle.own_model.specs.OwnState.{with_part}
use Rattle.own_model.specs.Region.{Region}
use Rattle.own_model.proofs.HeapBlockLemmas.{used_within}
use Rattle.own_model.proofs.NatMapJoinedLemmas.{joined-insert_first}
use Rattle.own_model.proofs.NatMapLemmas.{same, get-insert, picked_alike}
use Rattle.avl_alloc.specs.Layout.{heap_of}
use Rattle.region_map.specs.Regions.{Regions}
use Rattle.dataspace_core.specs.Store.{Store, part, bytes_of}
use Rattle.dataspace_core.specs.Share.{Share, share_in}
use Rattle.heap_core.specs.declared.heap.Heap.{Heap}
use Rattle.heap_core.specs.Heap.{IsSound, bytes_shown, chunk_at, heap_in, keys_in, large_regions, payer_of, payloads_from, payloads_of, share_at, words_in}
use Rattle.heap_core.specs.Words.{are_bytes, around, bytes_in_store, words_of}
use Rattle.heap_core.proofs.AroundLemmas.{bytes_of-part}
use Rattle.heap_core.proofs.ChangeLemmas.{keeps_spaces, large_apart, share_now, still_sound, words_now, chunk_now, part_there}
use Rattle.heap_core.proofs.ChunkLemmas.{are_sound, key_is, stand_in, words_are}
use Rattle.heap_core.proofs.PayloadLemmas.{entries_of, payloads-put, told, value_of-payloads}
use Rattle.heap_core.proofs.PokeLemmas.{in_keys, exists, room, poked, poked_around, poked_blocks}
use Rattle.heap_core.proofs.PokedLemmas.{told-poked}
use Rattle.heap_core.proofs.HoleLemmas.{AreTold, are_told}
use Rattle.heap_core.proofs.StandLemmas.{told_outside}
use Rattle.heap_core.proofs.TakenLemmas.{other_chunk}
use Rattle.heap_core.proofs.WordsLemmas.{put_at, put_other, distinct_apart, length_keys}

module _ (heap : Heap) (store : Store) (regions : Regions) (sound : IsSound heap store regions) (k y n offset : ℕ) (bytes : List ℕ) (there : k < length heap.chunks.items)
    (at : used_at y (chunk_of (heap_of heap.fit (words_of (keys_in heap) store)) k) ≡ Some n) (behind : y + 16 ≤ offset) (within : offset + length bytes ≤ y + n) (are : are_bytes bytes ≡ true) where
  abbrev pub account : ℕ
  account = payer_of heap

  abbrev pub S : Share
  S = share_at account store regions

  abbrev pub H : model.Heap
  H = heap_of heap.fit (words_of (keys_in heap) store)

  -- the memory after it
  abbrev pub later : Store
  later = poked heap store regions sound k y n offset bytes there at behind within are

  kept : around (keys_in heap) later ≡ around (keys_in heap) store
  kept = poked_around heap store regions sound k y n offset bytes there at behind within are

  -- the heap is sound still
  pub poke_sound : IsSound heap later regions
  poke_sound = still_sound heap heap.fit store later regions sound kept (poked_blocks heap store regions sound k y n offset bytes there at behind within are).0 refl

  H_is : heap_of heap.fit (words_in heap (part account store)) ≡ H
  H_is = ap (heap_of heap.fit) (words_are heap store regions sound)

  before : AreTold H heap.fit (length heap.chunks.items)
  before = are_told heap.fit (words_of (keys_in heap) store) _ (stand_in heap store regions sound).sound sound.laid.count

  -- where the payload starts
  abbrev pub address : ℕ
  address = (chunk_at heap k).start + y + 16

  abbrev pub payload : List ℕ
  payload = slice_range (bytes_of (part account store) (chunk_at heap k).ds.0) (y + 16) (y + n)

  key_of : (j : ℕ) → j < length heap.chunks.items → get_or (keys_in heap) j 0 ≡ (chunk_at heap j).ds.0
  key_of j in_heap = key_is heap store regions sound j (subst (λ m. j < m) (sym (length_keys heap.chunks.items)) in_heap)

  bytes_old : (j : ℕ) → j < length heap.chunks.items → bytes_of (part account store) (chunk_at heap j).ds.0 ≡ bytes_in_store store (get_or (keys_in heap) j 0)
  bytes_old j in_heap =
      bytes_of-part account (chunk_at heap j).ds.0 store (ap is_some (part_there heap heap.fit store later regions sound kept j in_heap))
      ∙ ap (bytes_in_store store) (sym (key_of j in_heap))

  bytes_new : (j : ℕ) → j < length heap.chunks.items → bytes_of (part account later) (chunk_at heap j).ds.0 ≡ bytes_in_store later (get_or (keys_in heap) j 0)
  bytes_new j in_heap =
      bytes_of-part account (chunk_at heap j).ds.0 later (ap is_some (chunk_now heap heap.fit store later regions sound kept j in_heap).there)
      ∙ ap (bytes_in_store later) (sym (key_of j in_heap))

  -- the bytes of its chunk, and of the others
  own_bytes : bytes_of (part account later) (chunk_at heap k).ds.0 ≡ with_bytes (bytes_of (part account store) (chunk_at heap k).ds.0) offset bytes
  own_bytes = search (rules, bytes_new, put_at, are_sound, in_keys, exists, room, bytes_old)

  other_bytes : (j : ℕ) → j < length heap.chunks.items → j ≢ k → bytes_of (part account later) (chunk_at heap j).ds.0 ≡ bytes_of (part account store) (chunk_at heap j).ds.0
  other_bytes j in_heap other =
      bytes_new j in_heap
      ∙ put_other (keys_in heap) store k offset bytes (are_sound heap store regions sound) (in_keys heap store regions sound k y n offset bytes there at behind within are) (exists heap store regions sound k y n offset bytes there at behind within are) (room heap store regions sound k y n offset bytes there at behind within are) are (get_or (keys_in heap) j 0)
      (λ e. other (distinct_apart (keys_in heap) j k (are_sound heap store regions sound).once (subst (λ m. j < m) (sym (length_keys heap.chunks.items)) in_heap) (in_keys heap store regions sound k y n offset bytes there at behind within are) e))
      ∙ sym (bytes_old j in_heap)

  -- the payload with the bytes put over it
  abbrev pub written : List ℕ
  written = with_part payload (offset - (y + 16)) bytes

  in_H : k < length H
  in_H = subst (λ m. k < m) (sym before.count) there

  one_other : (q : ℕ) → value_of q (entries_of (part account later) (chunk_at heap k) (chunk_of H k)) ≡ cond (eqb q address) (Some written) (value_of q (entries_of (part account store) (chunk_at heap k) (chunk_of H k)))
  one_other q =
      let start = (chunk_at heap k).start in
      let old = bytes_of (part account store) (chunk_at heap k).ds.0 in
      let was = sound.laid.chunks k there in
      let long = ap length (ap (λ (o : Option (List ℕ)). unwrap_or o []) (part_there heap heap.fit store later regions sound kept k there)) ∙ was.long in
      let total = before.total k there in
      value_of-payloads start 0 (bytes_of (part account later) (chunk_at heap k).ds.0) (chunk_of H k) q (before.each k there)
      ∙ ap (λ b. told start 0 b (chunk_of H k) q) own_bytes
      ∙ told-poked start old (chunk_of H k) y n offset bytes q (before.each k there) at behind within (omega (arith, long, total))
      ∙ ap (cond (eqb q address) (Some written)) (sym (value_of-payloads start 0 old (chunk_of H k) q (before.each k there)))

  none_before : (j : ℕ) → j < k → value_of address (entries_of (part account store) (chunk_at heap j) (chunk_of H j)) ≡ None
  none_before j below =
      let in_heap : j < length heap.chunks.items = let i = there in omega (arith, below, i) in
      let used = used_within y n (chunk_of H k) (before.each k there) at in
      let least = used.0.least in
      let to = used.1 in
      let total = before.total k there in
      let outside = other_chunk heap store regions sound j k address in_heap there (λ e. absurd (omega (arith, below, e))) (omega arith) (omega (arith, least, to, total)) in
      value_of-payloads (chunk_at heap j).start 0 (bytes_of (part account store) (chunk_at heap j).ds.0) (chunk_of H j) address (before.each j in_heap)
      ∙ told_outside (chunk_at heap j).start (bytes_of (part account store) (chunk_at heap j).ds.0) (chunk_of H j) address (before.each j in_heap)
      (subst (λ m. (address < (chunk_at heap j).start) ⊎ ((chunk_at heap j).start + m ≤ address)) (sym (before.total j in_heap)) outside)

  small_now : from_entries {R = nat_cmp} (payloads_of (part account later) heap.chunks.items H) ≡ insert (from_entries {R = nat_cmp} (payloads_of (part account store) heap.chunks.items H)) address written
  small_now = same _ _ (λ q.
      get-from_entries nat_cmp_total _ q
      ∙ payloads-put (part account store) (part account later) address written heap.chunks.items H k q there in_H (one_other q)
      (λ j in_heap other. ap (λ b. value_of q (payloads_from (chunk_at heap j).start 0 b (chunk_of H j))) (other_bytes j in_heap other)) none_before
      ∙ ap (cond (eqb q address) (Some written)) (sym (get-from_entries nat_cmp_total _ q))
      ∙ sym (get-insert (from_entries {R = nat_cmp} (payloads_of (part account store) heap.chunks.items H)) address written q))

  shown_now : bytes_shown (part account later).spaces (large_regions S) ≡ bytes_shown (part account store).spaces (large_regions S)
  shown_now = picked_alike (λ (r : Region). get (part account later).spaces r.of) (λ (r : Region). get (part account store).spaces r.of) (large_regions S) (λ q r h. (keeps_spaces heap heap.fit store later regions sound kept).others r.of (large_apart heap heap.fit store later regions sound kept q r h))

  chunks_now : heap_of heap.fit (words_in heap (part account later)) ≡ H
  chunks_now = ap (heap_of heap.fit) (words_now heap heap.fit store later regions sound kept) ∙ (poked_blocks heap store regions sound k y n offset bytes there at behind within are).1

  payloads_now : joined (from_entries {R = nat_cmp} (payloads_of (part account later) heap.chunks.items (heap_of heap.fit (words_in heap (part account later))))) (bytes_shown (part account later).spaces (large_regions S))
      ≡ insert (joined (from_entries {R = nat_cmp} (payloads_of (part account store) heap.chunks.items (heap_of heap.fit (words_in heap (part account store))))) (bytes_shown (part account store).spaces (large_regions S))) address written
  payloads_now = simp (chunks_now, small_now, shown_now, joined-insert_first, H_is)

  -- and has other bytes in this payload alone
  pub poke_value : heap_in heap (share_at account later regions) ≡ record (heap_in heap S) { payloads = insert (heap_in heap S).payloads address written }
  unfolding heap_in share_in
  poke_value = search (rules, share_now, kept, chunks_now, H_is, payloads_now)
