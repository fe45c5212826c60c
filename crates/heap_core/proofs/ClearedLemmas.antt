-- A used block in its chunk's words, and its payload cleared.
use Rattle.std.proofs.Common.{◌≡◌, ℕ, ◌+◌, ◌-◌, ◌%◌, ◌^◌, ◌<◌, ◌≤◌, true, List, [], ◌∷◌, length, get_or, sym, ap, subst, ◌∙◌, arith, rules, Some, is_some, inl, inr}
use Rattle.std.proofs.Math.Nat.{mul-le-mul}
use Rattle.std.proofs.lemmas.Bool.Decides.{nat_tests}
use Rattle.std.proofs.lemmas.List.{places}
use Rattle.std.proofs.lemmas.Option.{none-some}
use Rattle.std.specs.Prelude.{slice_range}
use Rattle.std.specs.Option.{IsSome}
use Rattle.std.specs.FinMap.{get, insert}
use Rattle.trade_base.specs.Word.{word_of}
use Rattle.trade_base.proofs.BytesLemmas.{with_bytes-whole}
use Rattle.own_model.specs.BestFit.{used_at, chunk_of}
use Rattle.own_model.specs.Heap.{Block, Used, Hole, AreBlocks}
use Rattle.own_model.specs.HeapWindow.{heap_high}
use Rattle.own_model.specs.OwnState.{zeros, with_part}
use Rattle.own_model.proofs.HeapBlockLemmas.{used_within}
use Rattle.own_model.proofs.ByteLemmas.{length-zeros, with_part-within}
use Rattle.avl_alloc.specs.declared.best_fit.BlockAddr.{BlockAddr}
use Rattle.avl_alloc.specs.Layout.{Laid, heap_of, sizes_of}
use Rattle.avl_alloc.specs.Words.{place_at}
use Rattle.avl_alloc.proofs.LayoutLemmas.{chunk_there, sound_told}
use Rattle.region_map.specs.Regions.{Regions}
use Rattle.dataspace_core.specs.Store.{Store, part, bytes_of, with_bytes_at}
use Rattle.dataspace_core.specs.Share.{Share, share_in}
use Rattle.heap_core.specs.declared.heap.Heap.{Heap}
use Rattle.heap_core.specs.declared.words.Chunk.{Chunk}
use Rattle.heap_core.specs.Heap.{IsSound, chunk_at, heap_in, keys_in, payer_of, share_at}
use Rattle.heap_core.specs.Taken.{IsUsed, Clears}
use Rattle.heap_core.specs.Words.{around, bytes_in_store, words_of, word_from}
use Rattle.heap_core.proofs.AddLemmas.{zeros_bytes}
use Rattle.heap_core.proofs.AroundLemmas.{bytes_of-part}
use Rattle.heap_core.proofs.ChunkLemmas.{chunk_paid, key_is, stand_in, words_are}
use Rattle.heap_core.proofs.FrameLemmas.{used_even}
use Rattle.heap_core.proofs.HeapLaws as laws
use Rattle.heap_core.proofs.PayloadLemmas.{no_chunk}
use Rattle.heap_core.proofs.PokeLemmas as poke
use Rattle.dataspace_core.proofs.ShareLaws.{in_share}
use Rattle.heap_core.proofs.StandLemmas.{blocks, chunk_blocks, chunk_short, chunk_total}
use Rattle.heap_core.proofs.UsedLemmas.{used_cases, used_past}
use Rattle.heap_core.proofs.WordsLemmas.{length_keys, word_at_place, word_there}

-- after a block of m bytes
word_later : (w : ℕ → ℕ) (place off n m : ℕ) → w (place + m + (off - m)) ≡ n → m ≤ off → w (place + off) ≡ n
word_later w place off n m is past =
    let on : place + m + (off - m) ≡ place + off = omega (arith, past) in subst (λ q. w q ≡ n) on is

-- the header of a used block tells its size
used_word : (w : ℕ → ℕ) (place off n : ℕ) (bs : List Block) → Laid w place bs → used_at off bs ≡ Some n → w (place + off) ≡ n
used_word w place off n [] laid at = absurd (none-some n at)
used_word w place off n (Used m ∷ rest) laid at = elim (used_cases off n m rest at) [
  | inl both ↦
      let first = both.0 in
      let here : place + off ≡ place = omega (arith, first) in
      ap w here ∙ laid.0.size ∙ both.1
  | inr later ↦ word_later w place off n m (used_word w (place + m) (off - m) n rest laid.1 later.1) later.0
]
used_word w place off n (Hole m ∷ rest) laid at =
    let later = used_past off n m rest at in
    word_later w place off n m (used_word w (place + m) (off - m) n rest laid.1 later.1) later.0

-- the heap window of a machine ends below 2^40
pub window_low : (machine : ℕ) → machine ≤ 4096 → heap_high machine ≤ 2 ^ 40
window_low machine few = grind (arith, nat_tests, mul-le-mul)

module _ (heap : Heap) (store : Store) (regions : Regions) (sound : IsSound heap store regions) (block : BlockAddr) (n : ℕ) (used : IsUsed heap store block n) where
  abbrev account : ℕ
  account = payer_of heap

  abbrev S : Share
  S = share_at account store regions

  abbrev k : ℕ
  k = block.chunk

  abbrev y : ℕ
  y = block.offset

  -- the dataspace of its chunk
  abbrev ds : ℕ
  ds = (chunk_at heap k).ds.0

  in_keys : k < length (keys_in heap)
  in_keys = subst (λ m. k < m) (sym (length_keys heap.chunks.items)) used.chunk

  at : used_at y (chunk_of (heap_of heap.fit (words_of (keys_in heap) store)) k) ≡ Some n
  at = subst (λ (w : ℕ → ℕ). used_at y (chunk_of (heap_of heap.fit w) k) ≡ Some n) (words_are heap store regions sound) used.used

  at_share : used_at y (chunk_of (blocks heap S sound.laid) k) ≡ Some n
  unfolding share_in
  at_share = used.used

  sizes : AreBlocks (chunk_of (blocks heap S sound.laid) k)
  sizes = chunk_blocks heap S sound.laid k used.chunk

  -- what a call needs to know of it
  pub record Facts : Type 0 where
    pub least : 48 ≤ n
    pub even : y % 8 ≡ 0
    pub exists : IsSome (get store.spaces ds)
    pub within : y + n ≤ length (bytes_in_store store ds)
    pub short : y + n ≤ 2 ^ 32
    pub size : word_of (slice_range (bytes_in_store store ds) y (y + 8)) ≡ n
    pub low : (chunk_at heap k).start + y + 16 ≤ 2 ^ 40

  behind : y + 16 ≤ y + 16
  behind = omega arith

  abbrev blank : List ℕ
  blank = zeros (n - 16)

  fits : 48 ≤ n → y + 16 + length blank ≤ y + n
  fits least = let l = length-zeros (n - 16) in omega (arith, l, least)

  least_of : 48 ≤ n
  least_of = (used_within y n _ sizes at_share).0.least

  key : get_or (keys_in heap) k 0 ≡ ds
  key = key_is heap store regions sound k in_keys

  -- the header, as best fit reads it
  header : words_of (keys_in heap) store (place_at k y) ≡ n
  header =
      let fit = (stand_in heap store regions sound).sound in
      let there : k < length (sizes_of heap.fit) = let c = sound.laid.count in let u = used.chunk in omega (arith, c, u) in
      let chunk = chunk_there (words_of (keys_in heap) store) 0 (sizes_of heap.fit) (heap_of heap.fit (words_of (keys_in heap) store)) k (sound_told heap.fit (words_of (keys_in heap) store) fit).laid.chunks there in
      let place : place_at (0 + k) 0 + y ≡ place_at k y = omega arith in
      subst (λ q. words_of (keys_in heap) store q ≡ n) place (used_word (words_of (keys_in heap) store) (place_at (0 + k) 0) y n _ chunk.laid at)

  pub facts : Facts
  facts =
      let inside = (used_within y n _ sizes at_share).1 in
      let total = chunk_total heap S sound.laid k used.chunk in
      let short = chunk_short heap S sound.laid k used.chunk in
      let stands = sound.laid.chunks k used.chunk in
      let first = used_even y n _ sizes at_share in
      let least = least_of in
      let zero = length-zeros (n - 16) in
      let same = ap (λ d. length (bytes_in_store store d)) key in
      let held = poke.room heap store regions sound k y n (y + 16) blank used.chunk at behind (fits least) (zeros_bytes (n - 16)) in
      let window = sound.window.lie.within (chunk_at heap k).start _ (in_share (part account store) regions.heap regions.tags (chunk_at heap k).start _ stands.region).0 in
      let up = window.to_high in
      let high = window_low regions.pages sound.window.few in
      let whole = stands.whole in
      let even : y % 8 ≡ 0 = omega (arith, first) in
      let room : y + n ≤ length (bytes_in_store store ds) = omega (arith, held, zero, same, least) in
      record {
        least = least;
        even = even;
        exists = subst (λ d. IsSome (get store.spaces d)) key (poke.exists heap store regions sound k y n (y + 16) blank used.chunk at behind (fits least) (zeros_bytes (n - 16)));
        within = room;
        short = omega (arith, inside, total, short);
        size = sym (word_there (bytes_in_store store ds) y even (omega (arith, room, least)))
            ∙ sym (ap (λ d. word_from (bytes_in_store store d) y) key)
            ∙ sym (word_at_place (keys_in heap) (bytes_in_store store) k y in_keys (omega (arith, inside, total, short, least)))
            ∙ header;
        low = omega (arith, up, high, whole, inside, total, least);
      }

  -- the memory with the payload cleared
  cleared_is : with_bytes_at store ds (y + 16) blank ≡ laws.later heap store regions sound k y n (y + 16) blank used.chunk at behind (fits least_of) (zeros_bytes (n - 16))
  cleared_is = ap (λ d. with_bytes_at store d (y + 16) blank) (sym key)

  part_bytes : bytes_of (part account store) ds ≡ bytes_in_store store ds
  part_bytes = bytes_of-part account ds store (subst (λ d. is_some (get (part account store).spaces d) ≡ true) key (chunk_paid heap store regions sound k in_keys))

  -- all of the payload is put over
  all_blank : with_part (slice_range (bytes_of (part account store) ds) (y + 16) (y + n)) (y + 16 - (y + 16)) blank ≡ blank
  all_blank =
      let least = least_of in
      let within = facts.within in
      let zero = length-zeros (n - 16) in
      let from : y + 16 - (y + 16) ≡ 0 = omega arith in
      let whole = ap length part_bytes in
      let long : length (slice_range (bytes_of (part account store) ds) (y + 16) (y + n)) ≡ n - 16 = search (rules, places) in
      rw from (with_part-within _ 0 blank (omega (arith, long, zero)) ∙ with_bytes-whole _ blank (long ∙ sym zero))

  pub clears : (new : Store) → new ≡ with_bytes_at store ds (y + 16) blank → Clears heap ((chunk_at heap k).start + y + 16) (n - 16) store new regions
  clears new is = record {
    value = ap (λ (s : Store). heap_in heap (share_at account s regions)) (is ∙ cleared_is)
        ∙ laws.poke_value heap store regions sound k y n (y + 16) blank used.chunk at behind (fits least_of) (zeros_bytes (n - 16))
        ∙ ap (λ bytes. record (heap_in heap S) { payloads = insert (heap_in heap S).payloads ((chunk_at heap k).start + y + 16) bytes }) all_blank;
  }

  pub cleared_sound : (new : Store) → new ≡ with_bytes_at store ds (y + 16) blank → IsSound heap new regions
  cleared_sound new is = subst (λ (s : Store). IsSound heap s regions) (sym (is ∙ cleared_is)) (laws.poke_sound heap store regions sound k y n (y + 16) blank used.chunk at behind (fits least_of) (zeros_bytes (n - 16)))

  pub cleared_around : (new : Store) → new ≡ with_bytes_at store ds (y + 16) blank → around (keys_in heap) new ≡ around (keys_in heap) store
  cleared_around new is = ap (around (keys_in heap)) (is ∙ cleared_is) ∙ poke.poked_around heap store regions sound k y n (y + 16) blank used.chunk at behind (fits least_of) (zeros_bytes (n - 16))

  -- what a call reads of it, and writes
  pub size_read : (cs : List Chunk) (size : ℕ) → cs ≡ heap.chunks.items → size ≡ word_of (slice_range (bytes_in_store store (get_or cs k no_chunk).ds.0) y (y + 8)) → size ≡ n
  size_read cs size same is = is ∙ ap (λ (xs : List Chunk). word_of (slice_range (bytes_in_store store (get_or xs k no_chunk).ds.0) y (y + 8))) same ∙ facts.size

  pub put_is : (cs : List Chunk) (size : ℕ) (new : Store) → cs ≡ heap.chunks.items → size ≡ word_of (slice_range (bytes_in_store store (get_or cs k no_chunk).ds.0) y (y + 8)) →
      new ≡ with_bytes_at store (get_or cs k no_chunk).ds.0 (y + 16) (zeros (size - 16)) → new ≡ with_bytes_at store ds (y + 16) blank
  put_is cs size new same is put = grind (arith, nat_tests, no_chunk, size_read)
