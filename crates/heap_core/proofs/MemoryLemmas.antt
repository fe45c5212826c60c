-- A memory is told by the words of chunks and what lies around them.
use Rattle.std.proofs.lemmas.Bool.Decides.{nat_tests}
use Rattle.std.proofs.Common.{◌≡◌, ℕ, ◌-◌, ◌^◌, ◌<◌, true, false, List, [], length, get_or, refl, sym, ap, subst, ◌∙◌, unwrap_or, arith, Some, is_some}
use Rattle.std.proofs.lemmas.Option.{none-some, same_Some}
use Rattle.std.proofs.lemmas.List.{take_all}
use Rattle.std.specs.Prelude.{Option, None, slice_range}
use Rattle.std.specs.Option.{option_map}
use Rattle.std.specs.FinMap.{get}
use Rattle.own_model.proofs.NatMapLemmas.{same}
use Rattle.avl_alloc.specs.Words.{place_at}
use Rattle.region_map.specs.Regions.{Regions}
use Rattle.dataspace_core.specs.Store.{Store, Space, part, bytes_of}
use Rattle.heap_core.specs.declared.heap.Heap.{Heap}
use Rattle.heap_core.specs.Heap.{IsSound, chunk_at, keys_in, payer_of, share_at}
use Rattle.heap_core.specs.Words.{Around, around, blank_if, bytes_in_store, is_among, spaces_but, words_of, word_from}
use Rattle.heap_core.proofs.AroundLemmas.{among_found, bytes_of-part, whole_kept}
use Rattle.heap_core.proofs.ChangeLemmas.{chunk_now, part_there}
use Rattle.heap_core.proofs.ChunkLemmas.{chunk_paid, in_chunks, key_is}
use Rattle.heap_core.proofs.HoleLemmas.{slices_same}
use Rattle.heap_core.proofs.StandLemmas.{chunk_short}
use Rattle.heap_core.proofs.WordsLemmas.{word_at_place}

-- all of some bytes
pub whole_slice : (bs : List ℕ) → slice_range bs 0 (length bs) ≡ bs
whole_slice bs = let n : length bs - 0 ≡ length bs = omega arith in rw n (take_all (length bs) bs (omega arith))

-- dataspaces that are alike but for their bytes, and have the same bytes, are the same
same_space : (o p : Option Space) → option_map (blank_if true) o ≡ option_map (blank_if true) p →
    (unwrap_or o (record { payer = 0; bytes = [] })).bytes ≡ (unwrap_or p (record { payer = 0; bytes = [] })).bytes → o ≡ p
same_space None None e f = refl
same_space None (Some t) e f = absurd (none-some (blank_if true t) e)
same_space (Some s) None e f = absurd (none-some (blank_if true s) (sym e))
same_space (Some s) (Some t) e f = grind (arith, nat_tests, same_Some)

module _ (heap : Heap) (old new : Store) (regions : Regions) (sound : IsSound heap old regions) (kept : around (keys_in heap) new ≡ around (keys_in heap) old) (words : words_of (keys_in heap) new ≡ words_of (keys_in heap) old) where
  abbrev account : ℕ
  account = payer_of heap

  space_kept : (k : ℕ) → option_map (blank_if (is_among (keys_in heap) k)) (get new.spaces k) ≡ option_map (blank_if (is_among (keys_in heap) k)) (get old.spaces k)
  unfolding spaces_but
  space_kept k = ap (λ (a : Around). a.spaces k) kept

  -- each chunk has the same bytes
  bytes_kept : (i : ℕ) → i < length (keys_in heap) → bytes_in_store new (get_or (keys_in heap) i 0) ≡ bytes_in_store old (get_or (keys_in heap) i 0)
  bytes_kept i in_keys =
      let there = in_chunks heap old regions sound i in_keys in
      let now = chunk_now heap heap.fit old new regions sound kept i there in
      let was = sound.laid.chunks i there in
      let key = key_is heap old regions sound i in_keys in
      let ds = get_or (keys_in heap) i 0 in
      let bytes_new : bytes_in_store new ds ≡ now.bytes =
      ap (bytes_in_store new) key
      ∙ sym (bytes_of-part account (chunk_at heap i).ds.0 new (ap is_some now.there))
      ∙ ap (λ (o : Option (List ℕ)). unwrap_or o []) now.there in
      let bytes_old : bytes_in_store old ds ≡ was.bytes =
      sym (bytes_of-part account ds old (chunk_paid heap old regions sound i in_keys))
      ∙ ap (bytes_of (part account old)) key
      ∙ ap (λ (o : Option (List ℕ)). unwrap_or o []) (part_there heap heap.fit old new regions sound kept i there) in
      let long : length now.bytes ≡ length was.bytes = now.long ∙ sym was.long in
      let short = chunk_short heap (share_at account old regions) sound.laid i there in
      let was_long = was.long in
      let size = was.whole in
      let same : slice_range now.bytes 0 (length now.bytes) ≡ slice_range was.bytes 0 (length now.bytes) =
      slices_same now.bytes was.bytes 0 (length now.bytes) long now.numbers was.numbers (omega arith) (omega (arith, long, was_long, size)) (omega arith)
      (λ o aligned low high.
      let fits : o < 2 ^ 32 = omega (arith, high, long, was_long, short) in
      ap (λ bs. word_from bs o) (sym bytes_new)
      ∙ sym (word_at_place (keys_in heap) (bytes_in_store new) i o in_keys fits)
      ∙ ap (λ (w : ℕ → ℕ). w (place_at i o)) words
      ∙ word_at_place (keys_in heap) (bytes_in_store old) i o in_keys fits
      ∙ ap (λ bs. word_from bs o) bytes_old) in
      bytes_new ∙ sym (whole_slice now.bytes) ∙ same ∙ ap (slice_range was.bytes 0) long ∙ whole_slice was.bytes ∙ sym bytes_old

  each_kept : (k : ℕ) → get new.spaces k ≡ get old.spaces k
  each_kept k = elim (is_among (keys_in heap) k) as (λ b. is_among (keys_in heap) k ≡ b → get new.spaces k ≡ get old.spaces k) [
    | true ↦ λ among.
        let at = among_found (keys_in heap) k among in
        same_space (get new.spaces k) (get old.spaces k) (subst (λ b. option_map (blank_if b) (get new.spaces k) ≡ option_map (blank_if b) (get old.spaces k)) among (space_kept k))
        (subst (λ d. bytes_in_store new d ≡ bytes_in_store old d) at.2 (bytes_kept at.0 at.1))
    | false ↦ λ none. whole_kept (keys_in heap) account old new kept (chunk_paid heap old regions sound) k none
  ] refl

  -- so the memory is the same
  pub memory_same : new ≡ old
  memory_same = let spaces : new.spaces ≡ old.spaces = same new.spaces old.spaces each_kept in grind (arith, nat_tests, spaces)
