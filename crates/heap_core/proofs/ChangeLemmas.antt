-- What stays of a heap while words of its chunks change, and nothing else.
use Rattle.std.proofs.Common.{rules, ◌≡◌, ℕ, ◌<◌, true, false, List, [], length, get_or, refl, sym, ap, subst, ◌∙◌, unwrap_or, arith, Some, is_some}
use Rattle.std.proofs.lemmas.Bool.Decides.{nat_tests}
use Rattle.std.proofs.lemmas.Option.{same_Some}
use Rattle.std.specs.Prelude.{Option}
use Rattle.std.specs.Option.{option_map}
use Rattle.std.specs.FinMap.{get}
use Rattle.own_model.specs.Region.{Region}
use Rattle.avl_alloc.specs.declared.best_fit.BestFit.{BestFit}
use Rattle.avl_alloc.specs.Layout as avl
use Rattle.avl_alloc.specs.Layout.{sizes_of}
use Rattle.region_map.specs.Regions.{Regions}
use Rattle.dataspace_core.specs.Store.{Store, part, bytes_of, PartBecomes, IsOpenIn, LengthsStay}
use Rattle.dataspace_core.specs.Share.{Share, share_in, IsWindowOf, KeepsShares}
use Rattle.dataspace_core.proofs.PartLaws.{open_in_part}
use Rattle.dataspace_core.proofs.ShareLaws.{share_alike, some_alike, in_share}
use Rattle.dataspace_core.proofs.WindowLaws.{length_some, window_after, own_account}
use Rattle.heap_core.specs.declared.heap.Heap.{Heap}
use Rattle.heap_core.specs.Heap.{IsLaid, IsSound, IsChunkAt, IsLargeAt, chunk_at, keys_in, payer_of, share_at, words_in, large_tag, large_regions}
use Rattle.heap_core.specs.Calls.{KeepsSpaces}
use Rattle.heap_core.specs.Words.{Around, is_among, are_bytes, around, bytes_in_store, words_of}
use Rattle.heap_core.proofs.AroundLemmas.{among_found, bytes_of-part, words_of-part, part_lengths, part_others, account_kept, around_becomes}
use Rattle.heap_core.proofs.ChunkLemmas.{key_is, in_chunks, chunk_paid, are_sound}
use Rattle.sliced_heap.proofs.ShareLemmas.{large_there, large_kept}
use Rattle.heap_core.proofs.WordsLemmas.{AreChunks, chunks_sound, sound_chunks, each_bytes, length_keys}

module _ (heap : Heap) (fit : BestFit) (old new : Store) (regions : Regions) (sound : IsSound heap old regions) (kept : around (keys_in heap) new ≡ around (keys_in heap) old) where
  abbrev account : ℕ
  account = payer_of heap

  abbrev S : Share
  S = share_at account old regions

  abbrev pub later : Heap
  later = record heap { fit = fit }

  -- the part in the share
  part_has : (k : ℕ) (bytes : List ℕ) → get S.part.spaces k ≡ Some bytes → get (part account old).spaces k ≡ Some bytes
  unfolding share_in
  part_has k bytes h = h

  pub part_there : (k : ℕ) (there : k < length heap.chunks.items) → get (part account old).spaces (chunk_at heap k).ds.0 ≡ Some (sound.laid.chunks k there).bytes
  part_there k there = part_has (chunk_at heap k).ds.0 (sound.laid.chunks k there).bytes (sound.laid.chunks k there).there

  -- a region of a large block shows no chunk
  pub large_apart : (s : ℕ) (r : Region) → get (large_regions S) s ≡ Some r → is_among (keys_in heap) r.of ≡ false
  large_apart s r h = elim (is_among (keys_in heap) r.of) as (λ b. is_among (keys_in heap) r.of ≡ b → b ≡ false) [
    | false ↦ λ e. refl
    | true ↦ λ e.
        let at = among_found (keys_in heap) r.of e in
        let stands = sound.laid.chunks at.0 (in_chunks heap old regions sound at.0 at.1) in
        let p = (in_share (part account old) regions.heap regions.tags (chunk_at heap at.0).start _ stands.region).0 in
        let q = (in_share (part account old) regions.heap regions.tags s r (large_there S s r h)).0 in
        let same = sound.window.once (chunk_at heap at.0).start s _ r p q (sym (key_is heap old regions sound at.0 at.1) ∙ at.2) in
        let number = large_kept S s r h in
        let e2 = same_Some at.0 large_tag (sym stands.tag ∙ ap (get S.tags) same ∙ number) in
        let few = sound.laid.few in
        let low = in_chunks heap old regions sound at.0 at.1 in
        absurd (omega (arith, e2, few, low))
  ] refl

  lengths : LengthsStay account old new
  lengths = part_lengths (keys_in heap) account old new kept (chunk_paid heap old regions sound)

  pub becomes : PartBecomes account (part account new) old new
  becomes = around_becomes (keys_in heap) account old new kept (chunk_paid heap old regions sound)

  pub same_account : (part account new).account ≡ (part account old).account
  same_account = account_kept (keys_in heap) account old new kept (chunk_paid heap old regions sound)

  pub keeps_spaces : KeepsSpaces heap old new
  keeps_spaces = record { others = part_others (keys_in heap) account old new kept (chunk_paid heap old regions sound); lengths = lengths }

  -- the share is as it was but for bytes
  pub share_now : share_at account new regions ≡ record { part = part account new; heap = S.heap; tags = S.tags }
  share_now = share_alike (part account old) (part account new) regions.heap regions.tags (λ s r h. some_alike _ _ (lengths r.of))

  pub keeps_shares : KeepsShares account old new regions.heap regions.tags regions.heap regions.tags
  keeps_shares = search (rules, becomes)

  pub still_open : IsOpenIn new account
  still_open = open_in_part account new (ap is_some (same_account ∙ own_account account old sound.opens))

  pub still_window : IsWindowOf new regions.pages regions.heap_most regions.heap
  still_window = window_after account (part account new) old new becomes regions.pages regions.heap_most regions.heap same_account sound.opens lengths sound.window

  -- the chunks are still chunks
  still_chunks : AreChunks (keys_in heap) (bytes_in_store new)
  still_chunks = sound_chunks (keys_in heap) (bytes_in_store new) (ap (λ (a : Around). a.sound) kept ∙ chunks_sound (keys_in heap) (bytes_in_store old) (are_sound heap old regions sound))

  still_paid : (i : ℕ) → i < length (keys_in heap) → is_some (get (part account new).spaces (get_or (keys_in heap) i 0)) ≡ true
  still_paid i there = some_alike _ _ (lengths (get_or (keys_in heap) i 0)) ∙ chunk_paid heap old regions sound i there

  pub words_now : words_in later (part account new) ≡ words_of (keys_in heap) new
  words_now = words_of-part (keys_in heap) account new still_paid

  -- a chunk in the part as it is now
  pub record ChunkNow (k : ℕ) : Type 0 where
    pub bytes : List ℕ
    pub there : get (part account new).spaces (chunk_at heap k).ds.0 ≡ Some bytes
    pub long : length bytes ≡ avl.bytes_of heap.fit k
    pub numbers : are_bytes bytes ≡ true

  pub chunk_now : (k : ℕ) → k < length heap.chunks.items → ChunkNow k
  chunk_now k in_heap =
      let in_keys = subst (λ n. k < n) (sym (length_keys heap.chunks.items)) in_heap in
      let was = sound.laid.chunks k in_heap in
      let key = key_is heap old regions sound k in_keys in
      let before : get (part account old).spaces (chunk_at heap k).ds.0 ≡ Some was.bytes = part_there k in_heap in
      let now = length_some (get (part account new).spaces (chunk_at heap k).ds.0) (length was.bytes) (lengths (chunk_at heap k).ds.0 ∙ ap (option_map length) before) in
      let same = ap (λ (o : Option (List ℕ)). unwrap_or o []) (sym now.1) ∙ ap (bytes_of (part account new)) (sym key) ∙ bytes_of-part account (get_or (keys_in heap) k 0) new (still_paid k in_keys) in
      record {
        bytes = now.0;
        there = now.1;
        long = now.2 ∙ was.long;
        numbers = ap are_bytes same ∙ each_bytes (keys_in heap) (bytes_in_store new) k still_chunks.each in_keys;
      }

  module _ (fit_sound : avl.IsSound fit (words_of (keys_in heap) new)) (sizes : sizes_of fit ≡ sizes_of heap.fit) where
    sizes_at : (k : ℕ) → avl.bytes_of fit k ≡ avl.bytes_of heap.fit k
    sizes_at k = ap (λ xs. get_or xs k 0) sizes

    stands : (k : ℕ) → k < length heap.chunks.items → IsChunkAt (record { part = part account new; heap = S.heap; tags = S.tags }) (chunk_at heap k) k (avl.bytes_of fit k)
    stands k there = grind (arith, nat_tests, sound.laid.chunks k there, chunk_now k there)

    large_stands : (s : ℕ) (r : Region) → get (large_regions S) s ≡ Some r → IsLargeAt (record { part = part account new; heap = S.heap; tags = S.tags }) r
    large_stands s r h =
        let was = sound.laid.large_stands s r h in
        record { bytes = was.bytes; there = keeps_spaces.others r.of (large_apart s r h) ∙ part_has r.of was.bytes was.there; whole = was.whole; least = was.least }

    pub still_laid : IsLaid later (share_at account new regions)
    still_laid = subst (IsLaid later) (sym share_now) (record {
      fit = subst (avl.IsSound fit) (sym words_now) fit_sound;
      count = ap length sizes ∙ sound.laid.count;
      few = sound.laid.few;
      chunks = stands;
      all = sound.laid.all;
      large = sound.laid.large;
      large_count = sound.laid.large_count;
      large_stands = large_stands;
      growth_some = sound.laid.growth_some;
      growth_most = sound.laid.growth_most;
    })

    pub still_sound : IsSound later new regions
    still_sound = record { opens = still_open; window = still_window; laid = still_laid }
