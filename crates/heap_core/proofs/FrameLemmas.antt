-- Payloads stay while only words of holes change.
use Rattle.std.proofs.Common.{rules, ◌≡◌, ℕ, ◌+◌, ◌-◌, ◌%◌, ◌^◌, ◌<◌, ◌≤◌, List, [], ◌∷◌, length, sym, ap, subst, ◌∙◌, unwrap_or, arith, Some, is_some, inl, inr}
use Rattle.std.proofs.lemmas.Bool.{cases_lt}
use Rattle.std.proofs.lemmas.Option.{none-some}
use Rattle.std.specs.Prelude.{Option, slice_range}
use Rattle.own_model.specs.BestFit.{used_at, chunk_of}
use Rattle.own_model.specs.Entries.{value_of}
use Rattle.own_model.specs.Heap as model
use Rattle.own_model.specs.Heap.{Block, Used, Hole, AreBlocks, bytes_in}
use Rattle.own_model.proofs.HeapBlockLemmas.{tail_blocks, used_within}
use Rattle.avl_alloc.specs.declared.best_fit.BestFit.{BestFit}
use Rattle.avl_alloc.specs.Layout as avl
use Rattle.avl_alloc.specs.Layout.{weigh_holes, whole, ChangesHoles}
use Rattle.avl_alloc.specs.Words.{place_at}
use Rattle.region_map.specs.Regions.{Regions}
use Rattle.dataspace_core.specs.Store.{Store, part, bytes_of}
use Rattle.heap_core.specs.declared.heap.Heap.{Heap}
use Rattle.heap_core.specs.Heap.{IsSound, chunk_at, keys_in, payer_of, share_at}
use Rattle.heap_core.specs.Words.{are_bytes, around, bytes_in_store, words_of, word_from}
use Rattle.heap_core.proofs.AroundLemmas.{bytes_of-part}
use Rattle.heap_core.proofs.ChangeLemmas.{chunk_now, part_there}
use Rattle.heap_core.proofs.ChunkLemmas.{key_is}
use Rattle.heap_core.proofs.HoleLemmas.{slices_same}
use Rattle.heap_core.proofs.PayloadLemmas.{told, value_of-payloads, entries_of}
use Rattle.heap_core.proofs.UsedLemmas.{used_cases, used_past}
use Rattle.heap_core.proofs.WordsLemmas.{length_keys, word_at_place}
use Rattle.heap_core.proofs.StandLemmas.{chunk_short}

-- used blocks start at multiples of 16
pub used_even : (off n : ℕ) (blocks : List Block) → AreBlocks blocks → used_at off blocks ≡ Some n → off % 16 ≡ 0
used_even off n [] sizes at = absurd (none-some n at)
used_even off n (Used m ∷ rest) sizes at = elim (used_cases off n m rest at) [
  | inl first ↦ let zero = first.0 in omega (arith, zero)
  | inr later ↦
      let past = later.0 in
      let even = sizes.0.even in
      let less = used_even (off - m) n rest sizes.1 later.1 in omega (arith, less, even, past)
]
used_even off n (Hole m ∷ rest) sizes at =
    let later = used_past off n m rest at in
    let past = later.0 in
    let parts = tail_blocks (Hole m) rest sizes in
    let even = parts.0.even in
    let less = used_even (off - m) n rest parts.1 later.1 in omega (arith, less, even, past)

-- a chunk tells the same payloads of bytes that agree in each of them
told_same : (start : ℕ) (old new : List ℕ) (blocks : List Block) (q : ℕ) → ((y n : ℕ) → used_at y blocks ≡ Some n → slice_range new (y + 16) (y + n) ≡ slice_range old (y + 16) (y + n)) → AreBlocks blocks →
    told start 0 new blocks q ≡ told start 0 old blocks q
told_same start old new blocks q alike sizes = search (rules, cases_lt)

module _ (heap : Heap) (fit : BestFit) (old new : Store) (regions : Regions) (sound : IsSound heap old regions) (kept : around (keys_in heap) new ≡ around (keys_in heap) old) (H : model.Heap)
    (no_hole : (k off n q : ℕ) → k < length heap.chunks.items → used_at off (chunk_of H k) ≡ Some n → place_at k off ≤ q → q < place_at k off + n → weigh_holes (whole q) H ≡ 0)
    (changes : ChangesHoles (words_of (keys_in heap) old) (words_of (keys_in heap) new) H)
    (blocks : (k : ℕ) → k < length heap.chunks.items → AreBlocks (chunk_of H k)) (totals : (k : ℕ) → k < length heap.chunks.items → bytes_in (chunk_of H k) ≡ avl.bytes_of heap.fit k) where
  abbrev account : ℕ
  account = payer_of heap

  -- a word of a chunk, as the bytes of the part have it
  word_old : (k o : ℕ) (there : k < length heap.chunks.items) → o < 2 ^ 32 → words_of (keys_in heap) old (place_at k o) ≡ word_from (bytes_of (part account old) (chunk_at heap k).ds.0) o
  word_old k o there short =
      let in_keys = subst (λ n. k < n) (sym (length_keys heap.chunks.items)) there in
      let key = key_is heap old regions sound k in_keys in
      word_at_place (keys_in heap) (bytes_in_store old) k o in_keys short
      ∙ ap (λ bs. word_from bs o) (ap (bytes_in_store old) key ∙ sym (bytes_of-part account (chunk_at heap k).ds.0 old (ap is_some (part_there heap fit old new regions sound kept k there))))

  word_new : (k o : ℕ) (there : k < length heap.chunks.items) → o < 2 ^ 32 → words_of (keys_in heap) new (place_at k o) ≡ word_from (bytes_of (part account new) (chunk_at heap k).ds.0) o
  word_new k o there short =
      let in_keys = subst (λ n. k < n) (sym (length_keys heap.chunks.items)) there in
      let key = key_is heap old regions sound k in_keys in
      let now = chunk_now heap fit old new regions sound kept k there in
      word_at_place (keys_in heap) (bytes_in_store new) k o in_keys short
      ∙ ap (λ bs. word_from bs o) (ap (bytes_in_store new) key ∙ sym (bytes_of-part account (chunk_at heap k).ds.0 new (ap is_some now.there)))

  -- the payload of a used block stays
  payload_same : (k : ℕ) (there : k < length heap.chunks.items) (y n : ℕ) → used_at y (chunk_of H k) ≡ Some n →
      slice_range (bytes_of (part account new) (chunk_at heap k).ds.0) (y + 16) (y + n) ≡ slice_range (bytes_of (part account old) (chunk_at heap k).ds.0) (y + 16) (y + n)
  payload_same k there y n at =
      let now = chunk_now heap fit old new regions sound kept k there in
      let was = sound.laid.chunks k there in
      let within = used_within y n (chunk_of H k) (blocks k there) at in
      let least = within.0.least in
      let even = within.0.even in
      let inside = within.1 in
      let first = used_even y n (chunk_of H k) (blocks k there) at in
      let total = totals k there in
      let short = chunk_short heap (share_at account old regions) sound.laid k there in
      let bytes_new : bytes_of (part account new) (chunk_at heap k).ds.0 ≡ now.bytes = ap (λ (o : Option (List ℕ)). unwrap_or o []) now.there in
      let bytes_old : bytes_of (part account old) (chunk_at heap k).ds.0 ≡ was.bytes = ap (λ (o : Option (List ℕ)). unwrap_or o []) (part_there heap fit old new regions sound kept k there) in
      let long_new = ap length bytes_new ∙ now.long in
      let long_old = ap length bytes_old ∙ was.long in
      slices_same _ _ (y + 16) (y + n) (long_new ∙ sym long_old) (ap are_bytes bytes_new ∙ now.numbers) (ap are_bytes bytes_old ∙ was.numbers) (omega (arith, first)) (omega (arith, first, even)) (omega (arith, inside, total, long_new))
      (λ o aligned low high.
      let fits : o < 2 ^ 32 = omega (arith, high, inside, total, short) in
      sym (word_new k o there fits)
      ∙ changes (place_at k o) (no_hole k y n (place_at k o) there at (omega (arith, low)) (omega (arith, high)))
      ∙ word_old k o there fits)

  -- so a chunk's payloads stay
  pub entries_same : (k : ℕ) (there : k < length heap.chunks.items) (q : ℕ) →
      value_of q (entries_of (part account new) (chunk_at heap k) (chunk_of H k)) ≡ value_of q (entries_of (part account old) (chunk_at heap k) (chunk_of H k))
  entries_same k there q = search (rules, value_of-payloads, told_same, payload_same)
