-- What is known of a heap that is laid in a share: its chunks, and what another share has of them.
use Rattle.std.proofs.Common.{rules, ◌≡◌, ℕ, suc, ◌+◌, ◌-◌, ◌/◌, ◌%◌, ◌^◌, ◌<◌, ◌≤◌, ◌++◌, true, false, cond, List, [], ◌∷◌, length, get_or, refl, sym, ap, subst, ◌∙◌, ⊎_elim, ◌⊎◌, arith, Some, unwrap_or}
use Rattle.std.proofs.lemmas.Bool.{cases_lt}
use Rattle.std.proofs.lemmas.Bool.Decides.{nat_tests}
use Rattle.std.specs.Prelude.{Option, None, nat_lt, slice_range}
use Rattle.std.specs.Option.{option_map}
use Rattle.std.specs.FinMap.{get}
use Rattle.std.proofs.lemmas.List.{get_or_past}
use Rattle.own_model.specs.BestFit.{used_at, chunk_of}
use Rattle.own_model.specs.Entries.{value_of}
use Rattle.own_model.specs.Heap as model
use Rattle.own_model.specs.Heap.{Block, AreBlocks, bytes_in}
use Rattle.own_model.proofs.ListLemmas.{all_within}
use Rattle.own_model.proofs.HeapBlockLemmas.{used_within}
use Rattle.avl_alloc.specs.Layout as avl
use Rattle.avl_alloc.specs.Layout.{heap_of, sizes_of, IsChunk, IsSound}
use Rattle.avl_alloc.proofs.LayoutLemmas.{sound_told, chunk_there}
use Rattle.dataspace_core.specs.Store.{Part, bytes_of}
use Rattle.dataspace_core.specs.Share.{Share}
use Rattle.heap_core.specs.declared.words.Chunk.{Chunk}
use Rattle.heap_core.specs.declared.heap.Heap.{Heap}
use Rattle.heap_core.specs.Words.{word_in, word_from, bytes_of_chunk}
use Rattle.heap_core.specs.Heap.{IsLaid, IsChunkAt, chunk_at, words_in, keys_in, payloads_of, payloads_from}
use Rattle.heap_core.proofs.BlockLemmas.{length-heap_of}
use Rattle.heap_core.proofs.PayloadLemmas.{told, value_of-payloads, no_chunk, entries_of}
use Rattle.heap_core.proofs.WordsLemmas.{length_keys, key_at}

-- no payload starts outside of a chunk
pub told_outside : (start : ℕ) (bytes : List ℕ) (blocks : List Block) (q : ℕ) → AreBlocks blocks → (q < start) ⊎ (start + bytes_in blocks ≤ q) → told start 0 bytes blocks q ≡ None
told_outside start bytes blocks q sizes outside = ⊎_elim
    (λ (low : q < start + 0 + 16). let a : nat_lt q (start + 0 + 16) ≡ true = grind (arith, nat_tests) in rw a refl)
    (λ (high : start + 0 + 16 ≤ q).
    let a : nat_lt q (start + 0 + 16) ≡ false = grind (arith, nat_tests) in
    let past : start + bytes_in blocks ≤ q = ⊎_elim (λ (low : q < start). absurd (omega (arith, low, high))) (λ (h : start + bytes_in blocks ≤ q). h) outside in
    rw a (elim (used_at (q - 16 - (start + 0)) blocks) as (λ o. used_at (q - 16 - (start + 0)) blocks ≡ o → option_map (λ n. slice_range bytes (q - start) (q - start - 16 + n)) o ≡ None) [
      | None ↦ λ e. refl
      | Some n ↦ λ e. let within = used_within (q - 16 - (start + 0)) n blocks sizes e in let to = within.1 in let least = within.0.least in absurd (omega (arith, to, past, high, least))
    ] refl))
    (cases_lt q (start + 0 + 16))

-- look-ups that agree on the chunks' dataspaces read the same words
same_chunk : (keys : List ℕ) (old new : ℕ → List ℕ) (c : ℕ) → ((i : ℕ) → i < length keys → new (get_or keys i 0) ≡ old (get_or keys i 0)) → bytes_of_chunk keys new c ≡ bytes_of_chunk keys old c
same_chunk keys old new c alike = search (rules, cases_lt)

pub words_same : (keys : List ℕ) (old new : ℕ → List ℕ) → ((i : ℕ) → i < length keys → new (get_or keys i 0) ≡ old (get_or keys i 0)) → word_in keys new ≡ word_in keys old
unfolding word_in
words_same keys old new alike = λ i q. cond (nat_lt q (2 ^ 32)) 0 (word_from (same_chunk keys old new (q / 2 ^ 32 - 1) alike i) (q % 2 ^ 32))

-- ---- a heap that is laid in a share

module _ (heap : Heap) (share : Share) (laid : IsLaid heap share) where
  -- its chunks of blocks
  abbrev pub blocks : model.Heap
  blocks = heap_of heap.fit (words_in heap share.part)

  pub count_blocks : length blocks ≡ length heap.chunks.items
  count_blocks = length-heap_of heap.fit (words_in heap share.part) ∙ laid.count

  pub chunk_blocks : (k : ℕ) → k < length heap.chunks.items → AreBlocks (chunk_of blocks k)
  chunk_blocks k there = all_within AreBlocks blocks k [] (sound_told heap.fit (words_in heap share.part) laid.fit).blocks (subst (λ n. k < n) (sym count_blocks) there)

  is_chunk : (k : ℕ) → k < length heap.chunks.items → IsChunk (words_in heap share.part) (0 + k) (get_or (sizes_of heap.fit) k 0) (get_or blocks k [])
  is_chunk k there = chunk_there (words_in heap share.part) 0 (sizes_of heap.fit) blocks k (sound_told heap.fit (words_in heap share.part) laid.fit).laid.chunks (subst (λ n. k < n) (sym laid.count) there)

  pub chunk_total : (k : ℕ) → k < length heap.chunks.items → bytes_in (chunk_of blocks k) ≡ avl.bytes_of heap.fit k
  chunk_total k there = (is_chunk k there).total

  pub chunk_short : (k : ℕ) → k < length heap.chunks.items → avl.bytes_of heap.fit k ≤ 2 ^ 32
  chunk_short k there = (is_chunk k there).short

  -- a number that is none of a chunk is none of blocks
  pub no_blocks : (k : ℕ) → length heap.chunks.items ≤ k → chunk_of blocks k ≡ []
  no_blocks k out = get_or_past blocks k [] (subst (λ n. n ≤ k) (sym count_blocks) out)

  -- the bytes of a chunk in the part
  pub chunk_bytes : (k : ℕ) (there : k < length heap.chunks.items) → bytes_of share.part (chunk_at heap k).ds.0 ≡ (laid.chunks k there).bytes
  chunk_bytes k there = ap (λ (o : Option (List ℕ)). unwrap_or o []) (laid.chunks k there).there

  -- an address outside of a chunk isn't that of one of its payloads
  pub not_in_chunk : (k : ℕ) (address : ℕ) → k < length heap.chunks.items → (address < (chunk_at heap k).start) ⊎ ((chunk_at heap k).start + avl.bytes_of heap.fit k ≤ address) →
      value_of address (entries_of share.part (chunk_at heap k) (chunk_of blocks k)) ≡ None
  not_in_chunk k address there outside = search (rules, value_of-payloads, chunk_blocks, told_outside, chunk_total)

-- parts that have the same bytes in each chunk have the same payloads
pub payloads_alike : (old new : Part) (chunks : List Chunk) (heap : model.Heap) → ((k : ℕ) → k < length chunks → bytes_of new (get_or chunks k no_chunk).ds.0 ≡ bytes_of old (get_or chunks k no_chunk).ds.0) →
    payloads_of new chunks heap ≡ payloads_of old chunks heap
payloads_alike old new [] heap alike = refl
payloads_alike old new (x ∷ xs) [] alike = refl
payloads_alike old new (x ∷ xs) (y ∷ ys) alike = λ i. payloads_from x.start 0 (alike 0 (omega arith) i) y ++ payloads_alike old new xs ys (λ k there. alike (suc k) (omega (arith, there))) i

-- ---- another share that has the same of the chunks

pub record SameChunks (heap : Heap) (share after : Share) : Type 0 where
  pub heap_same : (k : ℕ) → k < length heap.chunks.items → get after.heap (chunk_at heap k).start ≡ get share.heap (chunk_at heap k).start
  pub tags_same : (k : ℕ) → k < length heap.chunks.items → get after.tags (chunk_at heap k).start ≡ get share.tags (chunk_at heap k).start
  pub bytes_same : (k : ℕ) → k < length heap.chunks.items → get after.part.spaces (chunk_at heap k).ds.0 ≡ get share.part.spaces (chunk_at heap k).ds.0

module _ (heap : Heap) (share after : Share) (laid : IsLaid heap share) (alike : SameChunks heap share after) where
  same_bytes : (k : ℕ) → k < length heap.chunks.items → bytes_of after.part (chunk_at heap k).ds.0 ≡ bytes_of share.part (chunk_at heap k).ds.0
  same_bytes k there = ap (λ (o : Option (List ℕ)). unwrap_or o []) (alike.bytes_same k there)

  pub words_kept : words_in heap after.part ≡ words_in heap share.part
  words_kept = words_same (keys_in heap) (bytes_of share.part) (bytes_of after.part) (λ i there.
      let in_chunks = subst (λ n. i < n) (length_keys heap.chunks.items) there in
      let key = key_at heap.chunks.items i no_chunk there in
      ap (bytes_of after.part) key ∙ same_bytes i in_chunks ∙ ap (bytes_of share.part) (sym key))

  pub stands_kept : (k : ℕ) → k < length heap.chunks.items → IsChunkAt after (chunk_at heap k) k (avl.bytes_of heap.fit k)
  stands_kept k there = grind (arith, nat_tests)

  pub payloads_kept : (hs : model.Heap) → payloads_of after.part heap.chunks.items hs ≡ payloads_of share.part heap.chunks.items hs
  payloads_kept hs = payloads_alike share.part after.part heap.chunks.items hs same_bytes
