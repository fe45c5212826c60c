-- The chunks of a sound heap: what best fit asks of them, and what it leaves.
use Rattle.std.proofs.Common.{◌≡◌, ℕ, suc, ◌<◌, ◌≤◌, ◌&&◌, not, true, false, List, [], ◌∷◌, length, get_or, refl, sym, ap, subst, ◌∙◌, ⊎_elim, unwrap_or, arith, Some, is_some}
use Rattle.std.proofs.lemmas.Bool.{cases_lt}
use Rattle.std.proofs.lemmas.Bool.Decides.{nat_tests}
use Rattle.std.proofs.lemmas.Option.{same_Some}
use Rattle.std.specs.Prelude.{Option, nat_lt}
use Rattle.std.specs.Option.{option_map}
use Rattle.std.specs.FinMap.{get}
use Rattle.std.proofs.lemmas.List.{get_or_past}
use Rattle.avl_alloc.specs.Layout as avl
use Rattle.avl_alloc.specs.Layout.{sizes_of}
use Rattle.dataspace_core.specs.Store.{Store, part}
use Rattle.dataspace_core.specs.Share.{share_in}
use Rattle.region_map.specs.Regions.{Regions}
use Rattle.heap_core.specs.declared.heap.Heap.{Heap}
use Rattle.heap_core.specs.Blocks.{StandIn}
use Rattle.heap_core.specs.Heap.{IsLaid, IsSound, chunk_at, keys_in, payer_of, share_at, words_in}
use Rattle.heap_core.specs.Words.{is_among, are_distinct, are_bytes, around, bytes_around, bytes_in_store, words_of, spaces_but, size_in, blank_if}
use Rattle.heap_core.proofs.AroundLemmas.{among_found, bytes_of-part, words_of-part}
use Rattle.heap_core.proofs.PayloadLemmas.{no_chunk}
use Rattle.dataspace_core.proofs.ShareLaws.{in_share}
use Rattle.heap_core.proofs.WordsLemmas.{AreChunks, chunks_sound, all_bytes, key_at, length_keys, size_blank}

-- keys that differ at different places are distinct
pub apart_distinct : (keys : List ℕ) → ((i j : ℕ) → i < length keys → j < length keys → get_or keys i 0 ≡ get_or keys j 0 → i ≡ j) → are_distinct keys ≡ true
apart_distinct [] apart = refl
apart_distinct (x ∷ xs) apart =
    let rest = apart_distinct xs (λ i j a b e. let s = apart (suc i) (suc j) (omega (arith, a)) (omega (arith, b)) e in omega (arith, s)) in
    elim (is_among xs x) as (λ b. is_among xs x ≡ b → (not b && are_distinct xs) ≡ true) [
      | true ↦ λ among.
          let at = among_found xs x among in
          let s = apart 0 (suc at.0) (omega arith) (let l = at.1 in omega (arith, l)) (sym at.2) in absurd (omega (arith, s))
      | false ↦ λ none. rest
    ] refl

module _ (heap : Heap) (store : Store) (regions : Regions) (sound : IsSound heap store regions) where
  abbrev account : ℕ
  account = payer_of heap

  abbrev laid : IsLaid heap (share_at account store regions)
  laid = sound.laid

  -- the dataspace of a chunk by its number
  pub key_is : (i : ℕ) → i < length (keys_in heap) → get_or (keys_in heap) i 0 ≡ (chunk_at heap i).ds.0
  key_is i there = key_at heap.chunks.items i no_chunk there

  pub in_chunks : (i : ℕ) → i < length (keys_in heap) → i < length heap.chunks.items
  in_chunks i there = subst (λ n. i < n) (length_keys heap.chunks.items) there

  -- the part has it
  pub chunk_there : (i : ℕ) (there : i < length (keys_in heap)) → get (part account store).spaces (get_or (keys_in heap) i 0) ≡ Some (laid.chunks i (in_chunks i there)).bytes
  unfolding share_in
  chunk_there i there = ap (get (part account store).spaces) (key_is i there) ∙ (laid.chunks i (in_chunks i there)).there

  pub chunk_paid : (i : ℕ) → i < length (keys_in heap) → is_some (get (part account store).spaces (get_or (keys_in heap) i 0)) ≡ true
  chunk_paid i there = ap is_some (chunk_there i there)

  -- the words are those of the part
  pub words_are : words_in heap (part account store) ≡ words_of (keys_in heap) store
  words_are = words_of-part (keys_in heap) account store chunk_paid

  chunk_bytes : (i : ℕ) (there : i < length (keys_in heap)) → bytes_in_store store (get_or (keys_in heap) i 0) ≡ (laid.chunks i (in_chunks i there)).bytes
  chunk_bytes i there = cc (bytes_of-part account (get_or (keys_in heap) i 0) store (chunk_paid i there), ap (λ (o : Option (List ℕ)). unwrap_or o []) (chunk_there i there))

  -- no two chunks are in one dataspace
  once : (i j : ℕ) → i < length (keys_in heap) → j < length (keys_in heap) → get_or (keys_in heap) i 0 ≡ get_or (keys_in heap) j 0 → i ≡ j
  once i j a b e =
      let x = laid.chunks i (in_chunks i a) in
      let y = laid.chunks j (in_chunks j b) in
      let p = (in_share (part account store) regions.heap regions.tags (chunk_at heap i).start _ x.region).0 in
      let q = (in_share (part account store) regions.heap regions.tags (chunk_at heap j).start _ y.region).0 in
      let starts = sound.window.once (chunk_at heap i).start (chunk_at heap j).start _ _ p q (sym (key_is i a) ∙ e ∙ key_is j b) in
      same_Some i j (sym x.tag ∙ ap (get (share_at account store regions).tags) starts ∙ y.tag)

  pub are_sound : AreChunks (keys_in heap) (bytes_in_store store)
  are_sound = record {
    once = apart_distinct (keys_in heap) once;
    each = all_bytes (keys_in heap) (bytes_in_store store) (λ i there. ap are_bytes (chunk_bytes i there) ∙ (laid.chunks i (in_chunks i there)).numbers);
    few = subst (λ n. n ≤ 64) (sym (length_keys heap.chunks.items)) laid.few;
  }

  -- as many bytes as a chunk has are words
  fits : (chunk : ℕ) → avl.bytes_of heap.fit chunk ≤ bytes_around (around (keys_in heap) store) chunk
  unfolding bytes_around spaces_but
  fits chunk = ⊎_elim
      (λ (there : chunk < length (keys_in heap)).
      let t : nat_lt chunk (length (keys_in heap)) ≡ true = grind (arith, nat_tests) in
      let long : size_in (option_map (blank_if (is_among (keys_in heap) (get_or (keys_in heap) chunk 0))) (get store.spaces (get_or (keys_in heap) chunk 0))) ≡ avl.bytes_of heap.fit chunk =
      size_blank (is_among (keys_in heap) (get_or (keys_in heap) chunk 0)) (get store.spaces (get_or (keys_in heap) chunk 0))
      ∙ ap length (chunk_bytes chunk there) ∙ (laid.chunks chunk (in_chunks chunk there)).long in
      rw (chunks_sound (keys_in heap) (bytes_in_store store) are_sound, t) (omega (arith, long)))
      (λ (out : length (keys_in heap) ≤ chunk).
      let count = laid.count in
      let keys = length_keys heap.chunks.items in
      let none = get_or_past (sizes_of heap.fit) chunk 0 (omega (arith, out, count, keys)) in
      omega (arith, none))
      (cases_lt chunk (length (keys_in heap)))

  -- what best fit asks
  pub stand_in : StandIn heap.fit (words_of (keys_in heap) store) (bytes_around (around (keys_in heap) store))
  unfolding share_in
  stand_in = record { sound = subst (avl.IsSound heap.fit) words_are laid.fit; fits = fits }
