-- Bytes are put over those of a used block's payload: the heap stays but for these bytes.
use Rattle.std.proofs.Common.{rules, ◌≡◌, ℕ, ◌+◌, ◌-◌, ◌/◌, ◌%◌, ◌^◌, ◌<◌, ◌≤◌, true, List, [], length, get_or, sym, ap, subst, ◌∙◌, ◌⊎◌, unwrap_or, arith, Some}
use Rattle.std.proofs.lemmas.Bool.{cases_eq, cases_lt, and_parts}
use Rattle.std.specs.Prelude.{Option}
use Rattle.std.specs.Option.{IsSome}
use Rattle.std.specs.FinMap.{get}
use Rattle.trade_base.specs.Bytes.{with_bytes}
use Rattle.trade_base.proofs.BytesLemmas.{length-with_bytes}
use Rattle.trade_base.proofs.ElsewhereLemmas.{range_before, range_after}
use Rattle.own_model.specs.BestFit.{used_at, chunk_of}
use Rattle.own_model.specs.Heap as model
use Rattle.own_model.specs.Heap.{Block, AreBlocks, bytes_in}
use Rattle.own_model.proofs.HeapBlockLemmas.{used_within}
use Rattle.avl_alloc.specs.Layout as avl
use Rattle.avl_alloc.specs.Layout.{heap_of, kept_at}
use Rattle.avl_alloc.proofs.LayoutLemmas.{sound_kept}
use Rattle.region_map.specs.Regions.{Regions}
use Rattle.dataspace_core.specs.Store.{Store, part}
use Rattle.dataspace_core.specs.Share.{share_in}
use Rattle.dataspace_core.proofs.PartLaws.{paid_in_part}
use Rattle.heap_core.specs.declared.heap.Heap.{Heap}
use Rattle.heap_core.specs.Heap.{IsSound, keys_in, payer_of, share_at, words_in}
use Rattle.heap_core.specs.Words.{are_bytes, around, bytes_in_store, words_of, word_in, word_from}
use Rattle.heap_core.proofs.AroundLemmas.{bytes_of-part}
use Rattle.heap_core.proofs.ChunkLemmas.{in_chunks, chunk_there, chunk_paid, are_sound, stand_in, words_are}
use Rattle.heap_core.proofs.FrameLemmas.{used_even}
use Rattle.heap_core.proofs.HoleLemmas.{AreTold, are_told, payload_unkept}
use Rattle.heap_core.proofs.StandLemmas.{chunk_total}
use Rattle.heap_core.proofs.WordsLemmas.{distinct_apart, length_keys, put, put_at, put_other, put_around, same_if}

-- a word that the bytes put don't reach stays
pub word_past : (bytes : List ℕ) (offset : ℕ) (part : List ℕ) (o : ℕ) → offset + length part ≤ length bytes → (o % 8 ≡ 0 → (o + 8 ≤ offset) ⊎ (offset + length part ≤ o)) → word_from (with_bytes bytes offset part) o ≡ word_from bytes o
word_past bytes offset part o fits apart = search (rules, length-with_bytes, same_if, and_parts, range_before, range_after)

module _ (heap : Heap) (store : Store) (regions : Regions) (sound : IsSound heap store regions) (k y n offset : ℕ) (bytes : List ℕ) (there : k < length heap.chunks.items)
    (at : used_at y (chunk_of (heap_of heap.fit (words_of (keys_in heap) store)) k) ≡ Some n) (behind : y + 16 ≤ offset) (within : offset + length bytes ≤ y + n) (are : are_bytes bytes ≡ true) where
  abbrev pub account : ℕ
  account = payer_of heap

  abbrev pub W : ℕ → ℕ
  W = words_of (keys_in heap) store

  abbrev pub H : model.Heap
  H = heap_of heap.fit W

  pub in_keys : k < length (keys_in heap)
  in_keys = subst (λ m. k < m) (sym (length_keys heap.chunks.items)) there

  abbrev pub key : ℕ
  key = get_or (keys_in heap) k 0

  H_sound : avl.IsSound heap.fit W
  H_sound = (stand_in heap store regions sound).sound

  before : AreTold H heap.fit (length heap.chunks.items)
  before = are_told heap.fit W _ H_sound sound.laid.count

  pub exists : IsSome (get store.spaces key)
  exists = (paid_in_part account key _ store (chunk_there heap store regions sound k in_keys)).exists

  key_bytes : bytes_in_store store key ≡ (sound.laid.chunks k (in_chunks heap store regions sound k in_keys)).bytes
  key_bytes = sym (bytes_of-part account key store (chunk_paid heap store regions sound k in_keys)) ∙ ap (λ (o : Option (List ℕ)). unwrap_or o []) (chunk_there heap store regions sound k in_keys)

  total_of : bytes_in (chunk_of (heap_of heap.fit (words_in heap (part account store))) k) ≡ avl.bytes_of heap.fit k
  unfolding share_in
  total_of = chunk_total heap (share_at account store regions) sound.laid k there

  pub room : offset + length bytes ≤ length (bytes_in_store store key)
  room =
      let used = used_within y n (chunk_of H k) (before.each k there) at in
      let inside = used.1 in
      let total = (ap (λ h. bytes_in (chunk_of h k)) (sym (ap (heap_of heap.fit) (words_are heap store regions sound))) ∙ total_of) in
      let long = ap length key_bytes ∙ (sound.laid.chunks k (in_chunks heap store regions sound k in_keys)).long in
      omega (arith, within, inside, total, long)

  -- the memory then
  abbrev pub poked : Store
  poked = put (keys_in heap) store k offset bytes (are_sound heap store regions sound) in_keys exists room are

  pub poked_around : around (keys_in heap) poked ≡ around (keys_in heap) store
  poked_around = put_around (keys_in heap) store k offset bytes (are_sound heap store regions sound) in_keys exists room are

  -- a word that the bytes reach is one of the payload, which the heap doesn't keep
  apart_from : (q : ℕ) → q / 2 ^ 32 - 1 ≡ k → 2 ^ 32 ≤ q → 1 ≤ kept_at q H → q % 2 ^ 32 % 8 ≡ 0 → (q % 2 ^ 32 + 8 ≤ offset) ⊎ (offset + length bytes ≤ q % 2 ^ 32)
  apart_from q same high kept even = search (rules, used_even, (before.each k there), payload_unkept, H_sound, (subst (λ m. k < m) (sym before.count) there), cases_lt)

  -- a word that the heap keeps for itself stays
  word_kept : (q : ℕ) → 1 ≤ kept_at q H → words_of (keys_in heap) poked q ≡ W q
  unfolding word_in
  word_kept q kept = search (rules, in_keys, put_at, are_sound, exists, room, word_past, apart_from, put_other, distinct_apart, cases_lt, cases_eq)

  -- so the heap's blocks stay
  pub poked_blocks : avl.IsSound heap.fit (words_of (keys_in heap) poked) × (heap_of heap.fit (words_of (keys_in heap) poked) ≡ H)
  poked_blocks = sound_kept heap.fit W (words_of (keys_in heap) poked) H_sound word_kept
