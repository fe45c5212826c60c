-- A new dataspace becomes the last chunk: what best fit asks of it, and of the chunks before.
use Rattle.std.proofs.Common.{rules, ◌≡◌, ◌≢◌, ℕ, zero, suc, ◌-◌, ◌/◌, ◌^◌, ◌<◌, ◌≤◌, ◌==◌, ◌++◌, true, false, List, [], ◌∷◌, length, get_or, refl, sym, ap, ◌∙◌, true≢false, unwrap_or, arith, is_some}
use Rattle.std.proofs.Math.ListN.{get_or-append}
use Rattle.std.proofs.Math.Seq.{get_or-append_seam}
use Rattle.std.proofs.lemmas.Bool.{cases_lt}
use Rattle.std.proofs.lemmas.Bool.Decides.{nat_tests}
use Rattle.std.proofs.lemmas.List.{length_push, get_or_past}
use Rattle.std.specs.Prelude.{Option, None, nat_lt}
use Rattle.std.specs.FinMap.{get}
use Rattle.trade_base.specs.Page.{page_of}
use Rattle.own_model.specs.Heap as model
use Rattle.own_model.specs.OwnState.{zeros}
use Rattle.own_model.proofs.ByteLemmas.{length-zeros}
use Rattle.own_model.proofs.NatMapLemmas.{get-insert_other}
use Rattle.avl_alloc.specs.Layout as avl
use Rattle.avl_alloc.specs.Layout.{heap_of, sizes_of, kept_at}
use Rattle.avl_alloc.proofs.LayoutLemmas.{sound_kept}
use Rattle.region_map.specs.Regions.{Regions}
use Rattle.dataspace_core.specs.Store.{Store, Space, Part, part, PartBecomes, part_with_space, with_space}
use Rattle.dataspace_core.proofs.PartLaws.{paid_in_part}
use Rattle.dataspace_core.proofs.WindowLaws.{in_none, new_in_part}
use Rattle.heap_core.specs.declared.heap.Heap.{Heap}
use Rattle.heap_core.specs.declared.words.Chunk.{Chunk}
use Rattle.heap_core.specs.Blocks.{StandIn}
use Rattle.heap_core.specs.Heap.{IsSound, keys_in, payer_of}
use Rattle.heap_core.specs.Words.{keys_of, is_among, are_bytes, around, bytes_around, bytes_in_store, words_of, word_in, spaces_but}
use Rattle.heap_core.proofs.BlockLemmas.{length-heap_of}
use Rattle.heap_core.proofs.ChunkLemmas.{apart_distinct, are_sound, chunk_paid, stand_in}
use Rattle.heap_core.proofs.HoleLemmas.{kept_in_chunks}
use Rattle.heap_core.proofs.WordsLemmas.{AreChunks, all_bytes, chunks_sound, distinct_apart, each_bytes, length_keys, size_blank}

-- ---- a key more

-- the keys of chunks and one more
pub keys_more : (chunks : List Chunk) (c : Chunk) → keys_of (chunks ++ c ∷ []) ≡ keys_of chunks ++ c.ds.0 ∷ []
keys_more [] c = refl
keys_more (x ∷ xs) c = ap (λ ks. x.ds.0 ∷ ks) (keys_more xs c)

-- which key a number has
pub key_cases : (keys : List ℕ) (x : ℕ) (P : ℕ → ℕ → Type 0) → ((i : ℕ) → i < length keys → P i (get_or keys i 0)) → P (length keys) x → (i : ℕ) → i < length (keys ++ x ∷ []) → P i (get_or (keys ++ x ∷ []) i 0)
key_cases keys x P low last i there = search (rules, get_or-append, length_push, get_or-append_seam, cases_lt)

-- another key is among them as before
pub among_more : (keys : List ℕ) (x k : ℕ) → k ≢ x → is_among (keys ++ x ∷ []) k ≡ is_among keys k
among_more [] x k other = let t : (x == k) ≡ false = grind (arith, nat_tests) in rw t refl
among_more (y ∷ ys) x k other = let rest = among_more ys x k other in grind (arith, nat_tests, rest)

-- a word of a chunk before is the same where the chunk's bytes are
pub word_low : (keys : List ℕ) (x : ℕ) (old new : ℕ → List ℕ) (q : ℕ) → q / 2 ^ 32 - 1 < length keys → new (get_or keys (q / 2 ^ 32 - 1) 0) ≡ old (get_or keys (q / 2 ^ 32 - 1) 0) →
    word_in (keys ++ x ∷ []) new q ≡ word_in keys old q
unfolding word_in
word_low keys x old new q there same = grind (arith, nat_tests, length_push, get_or-append)

-- where there is no chunk all words are the same
pub word_out : (keys : List ℕ) (old new : ℕ → List ℕ) (q : ℕ) → length keys ≤ q / 2 ^ 32 - 1 → word_in keys new q ≡ word_in keys old q
unfolding word_in
word_out keys old new q out = let t : nat_lt (q / 2 ^ 32 - 1) (length keys) ≡ false = grind (arith, nat_tests) in rw t refl

-- as many bytes of a chunk are words as its dataspace has
pub around_bytes : (keys : List ℕ) (store : Store) (i : ℕ) → AreChunks keys (bytes_in_store store) → i < length keys → bytes_around (around keys store) i ≡ length (bytes_in_store store (get_or keys i 0))
unfolding bytes_around spaces_but
around_bytes keys store i are there = grind (arith, nat_tests, chunks_sound, size_blank)

pub zeros_bytes : (n : ℕ) → are_bytes (zeros n) ≡ true
unfolding zeros
zeros_bytes zero = refl
zeros_bytes (suc n) = zeros_bytes n

module _ (heap : Heap) (old new : Store) (regions : Regions) (ds asked : ℕ) (sound : IsSound heap old regions) (fresh : get old.spaces ds ≡ None)
    (ok : new ≡ with_space old ds (payer_of heap) asked) (becomes : PartBecomes (payer_of heap) (part_with_space (part (payer_of heap) old) ds asked) old new) (room : length heap.chunks.items < 64) where
  abbrev account : ℕ
  account = payer_of heap

  -- the chunks' keys with the new one
  abbrev pub keys : List ℕ
  keys = keys_in heap ++ ds ∷ []

  -- every other dataspace is as it was
  pub other_space : (k : ℕ) → k ≢ ds → get new.spaces k ≡ get old.spaces k
  other_space k other = ap (λ (s : Store). get s.spaces k) ok ∙ get-insert_other old.spaces ds _ k other

  pub other_bytes : (k : ℕ) → k ≢ ds → bytes_in_store new k ≡ bytes_in_store old k
  other_bytes k other = ap (λ (o : Option Space). (unwrap_or o (record { payer = 0; bytes = [] })).bytes) (other_space k other)

  -- the new one is all zero
  pub new_bytes : bytes_in_store new ds ≡ zeros (page_of asked)
  new_bytes = (paid_in_part account ds _ new (new_in_part account ds asked old new becomes)).bytes_are

  -- and was none of the chunks'
  pub key_other : (i : ℕ) → i < length (keys_in heap) → get_or (keys_in heap) i 0 ≢ ds
  key_other i there e = true≢false (sym (chunk_paid heap old regions sound i there) ∙ ap (λ q. is_some (get (part account old).spaces q)) e ∙ ap is_some (in_none account ds old fresh))

  apart_then : (i j : ℕ) → i < length keys → j < length keys → get_or keys i 0 ≡ get_or keys j 0 → i ≡ j
  apart_then i j a b = key_cases (keys_in heap) ds (λ n k. k ≡ get_or keys j 0 → n ≡ j)
      (λ n in_n. key_cases (keys_in heap) ds (λ m l. get_or (keys_in heap) n 0 ≡ l → n ≡ m)
      (λ m in_m e. distinct_apart (keys_in heap) n m (are_sound heap old regions sound).once in_n in_m e)
      (λ e. absurd (key_other n in_n e)) j b)
      (key_cases (keys_in heap) ds (λ m l. ds ≡ l → length (keys_in heap) ≡ m)
      (λ m in_m e. absurd (key_other m in_m (sym e)))
      (λ e. refl) j b) i a

  -- they are chunks
  pub are_then : AreChunks keys (bytes_in_store new)
  are_then = record {
    once = apart_distinct keys apart_then;
    each = all_bytes keys (bytes_in_store new) (key_cases (keys_in heap) ds (λ i k. are_bytes (bytes_in_store new k) ≡ true)
        (λ i there. ap are_bytes (other_bytes _ (key_other i there)) ∙ each_bytes (keys_in heap) (bytes_in_store old) i (are_sound heap old regions sound).each there)
        (ap are_bytes new_bytes ∙ zeros_bytes (page_of asked)));
    few = let n = length_push (keys_in heap) ds in let m = length_keys heap.chunks.items in omega (arith, n, m, room);
  }

  -- the account pays for them
  pub paid_then : (i : ℕ) → i < length keys → is_some (get (part account new).spaces (get_or keys i 0)) ≡ true
  paid_then = key_cases (keys_in heap) ds (λ i k. is_some (get (part account new).spaces k) ≡ true)
      (λ i there. ap (λ (p : Part). is_some (get p.spaces (get_or (keys_in heap) i 0))) becomes.own ∙ ap is_some (get-insert_other (part account old).spaces ds _ _ (key_other i there)) ∙ chunk_paid heap old regions sound i there)
      (ap is_some (new_in_part account ds asked old new becomes))

  -- the blocks before
  abbrev H : model.Heap
  H = heap_of heap.fit (words_of (keys_in heap) old)

  H_count : length H ≡ length (keys_in heap)
  H_count = length-heap_of heap.fit (words_of (keys_in heap) old) ∙ sound.laid.count ∙ sym (length_keys heap.chunks.items)

  pub word_then : (q : ℕ) → q / 2 ^ 32 - 1 < length (keys_in heap) → words_of keys new q ≡ words_of (keys_in heap) old q
  word_then q there = word_low (keys_in heap) ds (bytes_in_store old) (bytes_in_store new) q there (other_bytes _ (key_other _ there))

  -- the heap's blocks stay
  pub blocks_then : avl.IsSound heap.fit (words_of keys new) × (heap_of heap.fit (words_of keys new) ≡ H)
  blocks_then = grind (arith, nat_tests, sound_kept, stand_in, kept_in_chunks, H_count, word_then)

  fits_then : (chunk : ℕ) → avl.bytes_of heap.fit chunk ≤ bytes_around (around keys new) chunk
  fits_then chunk = search (rules, length_push, stand_in, around_bytes, are_sound, are_then, get_or-append, other_bytes, key_other, length_keys, get_or_past, cases_lt)

  -- what best fit asks
  pub stand_then : StandIn heap.fit (words_of keys new) (bytes_around (around keys new))
  stand_then = record { sound = blocks_then.0; fits = fits_then }

  pub there_then : bytes_around (around keys new) (length (keys_in heap)) ≡ page_of asked
  there_then = grind (arith, nat_tests, length_push, around_bytes, are_then, get_or-append_seam, new_bytes, length-zeros)
