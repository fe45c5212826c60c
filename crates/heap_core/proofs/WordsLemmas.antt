-- Words of chunks: a load reads one, a store changes one and nothing around.
use Rattle.std.proofs.Common.{rules, ◌≡◌, ◌≢◌, ℕ, zero, suc, ◌+◌, ◌-◌, ◌%◌, ◌^◌, ◌<◌, ◌≤◌, ◌==◌, ◌&&◌, Bool, true, false, cond, List, [], ◌∷◌, length, take, drop, length-drop, min, get_or, refl, sym, ap, subst, ◌∙◌, ⊎_elim, ◌⊎◌, inl, inr, arith}
use Rattle.std.proofs.lemmas.Bool.{cases_eq, cases_lt, and_parts}
use Rattle.std.proofs.lemmas.Bool.Decides.{nat_tests}
use Rattle.std.proofs.lemmas.List.{get_or-map, length-map, length-take, same_lists, places}
use Rattle.std.proofs.lemmas.List.Folds.{list_any_at, list_all-append}
use Rattle.std.specs.Prelude.{Option, Some, None, slice_range}
use Rattle.std.specs.Option.{option_map, unwrap_or, IsSome}
use Rattle.std.specs.List.{list_all}
use Rattle.std.specs.FinMap.{get, empty}
use Rattle.trade_base.specs.Bytes.{with_bytes}
use Rattle.trade_base.specs.Word.{word_of, word_bytes}
use Rattle.trade_base.proofs.BytesLemmas.{slice_range-with_bytes, length-with_bytes}
use Rattle.trade_base.proofs.ElsewhereLemmas.{range_before, range_after}
use Rattle.trade_base.proofs.WordLemmas.{word_of-word_bytes, length-word_bytes, word_bytes-lt}
use Rattle.own_model.specs.OwnState.{zeros}
use Rattle.own_model.proofs.ByteLemmas.{length-zeros}
use Rattle.own_model.proofs.NatMapLemmas.{get-insert_same, get-insert_other}
use Rattle.avl_alloc.specs.Words.{IsWord, place_at, with_word}
use Rattle.dataspace_core.specs.Store.{Store, Space, with_bytes_at}
use Rattle.heap_core.specs.declared.words.Chunk.{Chunk}
use Rattle.heap_core.specs.Words.{keys_of, is_among, are_distinct, are_bytes, are_chunks, word_from, word_in, bytes_in_store, blank_if, spaces_but, around, size_in, bytes_around}

-- ---- which chunks

-- a key that stands at two places of distinct keys stands at one
pub distinct_apart : (keys : List ℕ) (i j : ℕ) → are_distinct keys ≡ true → i < length keys → j < length keys → get_or keys i 0 ≡ get_or keys j 0 → i ≡ j
distinct_apart [] i j once a b e = absurd (omega (arith, a))
distinct_apart (x ∷ xs) zero zero once a b e = refl
distinct_apart (x ∷ xs) zero (suc j) once a b e = grind (arith, nat_tests, list_any_at)
distinct_apart (x ∷ xs) (suc i) zero once a b e = grind (arith, nat_tests, list_any_at)
distinct_apart (x ∷ xs) (suc i) (suc j) once a b e = grind (arith, nat_tests, distinct_apart xs i j (grind (arith, nat_tests)) (omega (arith, a)) (omega (arith, b)) e)

-- a key of these is among them
pub among_there : (keys : List ℕ) (i : ℕ) → i < length keys → is_among keys (get_or keys i 0) ≡ true
among_there keys i there = list_any_at (λ y. y == get_or keys i 0) keys i 0 there (grind (arith, nat_tests))

-- numbers that are bytes are each below 256
pub bytes_below : (numbers : List ℕ) (i : ℕ) → are_bytes numbers ≡ true → get_or numbers i 0 < 256
bytes_below [] i h = omega arith
bytes_below (x ∷ xs) zero h = grind (arith, nat_tests)
bytes_below (x ∷ xs) (suc i) h = bytes_below xs i (grind (arith, nat_tests))

-- and numbers that are each below 256 are bytes
pub below_bytes : (numbers : List ℕ) → ((i : ℕ) → get_or numbers i 0 < 256) → are_bytes numbers ≡ true
below_bytes [] h = refl
below_bytes (x ∷ xs) h = let first : x < 256 = h 0 in let rest = below_bytes xs (λ i. h (suc i)) in grind (arith, nat_tests)

-- the bytes of each of these dataspaces are bytes
pub each_bytes : (keys : List ℕ) (bytes : ℕ → List ℕ) (i : ℕ) → list_all (λ ds. are_bytes (bytes ds)) keys ≡ true → i < length keys → are_bytes (bytes (get_or keys i 0)) ≡ true
each_bytes [] bytes i h a = absurd (omega (arith, a))
each_bytes (x ∷ xs) bytes zero h a = grind (arith, nat_tests)
each_bytes (x ∷ xs) bytes (suc i) h a = each_bytes xs bytes i (grind (arith, nat_tests)) (omega (arith, a))

-- what another look-up tells of them is bytes too, where it tells bytes of each
pub all_bytes : (keys : List ℕ) (bytes : ℕ → List ℕ) → ((i : ℕ) → i < length keys → are_bytes (bytes (get_or keys i 0)) ≡ true) → list_all (λ ds. are_bytes (bytes ds)) keys ≡ true
all_bytes [] bytes h = refl
all_bytes (x ∷ xs) bytes h = let first = h 0 (omega arith) in let rest = all_bytes xs bytes (λ i a. h (suc i) (omega (arith, a))) in grind (arith, nat_tests)

-- of bytes that come first, and of those that come last
pub bytes_taken : (numbers : List ℕ) (n : ℕ) → are_bytes numbers ≡ true → are_bytes (take n numbers) ≡ true
bytes_taken [] zero h = refl
bytes_taken [] (suc n) h = refl
bytes_taken (x ∷ xs) zero h = refl
bytes_taken (x ∷ xs) (suc n) h = let rest = bytes_taken xs n (grind (arith, nat_tests)) in grind (arith, nat_tests, rest)

pub bytes_dropped : (numbers : List ℕ) (n : ℕ) → are_bytes numbers ≡ true → are_bytes (drop n numbers) ≡ true
bytes_dropped [] zero h = refl
bytes_dropped [] (suc n) h = refl
bytes_dropped (x ∷ xs) zero h = h
bytes_dropped (x ∷ xs) (suc n) h = bytes_dropped xs n (grind (arith, nat_tests))

-- a range of a range of bytes
pub range_in : (bytes : List ℕ) (before size from count : ℕ) → before + size ≤ length bytes → from + count ≤ size →
    slice_range bytes (before + from) (before + from + count) ≡ slice_range (slice_range bytes before (before + size)) from (from + count)
range_in bytes before size from count fits within = same_lists _ _ (search (rules, places)) (λ k d h. grind (arith, places))

-- a range that has as many bytes as it should lies within them
pub range_whole : (bytes : List ℕ) (from size : ℕ) → 0 < size → length (slice_range bytes from (from + size)) ≡ size → from + size ≤ length bytes
range_whole bytes from size some long =
    let left : from + size - from ≡ size = omega arith in
    let taken : length (slice_range bytes from (from + size)) ≡ min (from + size - from) (length (drop from bytes)) = length-take (from + size - from) (drop from bytes) in
    let dropped = length-drop from bytes in
    omega (arith, some, left, long, taken, dropped)

-- ---- how long the chunks are

-- a dataspace with its bytes left out is as long
pub size_blank : (hidden : Bool) (o : Option Space) → size_in (option_map (blank_if hidden) o) ≡ size_in o
size_blank hidden None = refl
size_blank true (Some space) = length-zeros (length space.bytes)
size_blank false (Some space) = refl

-- one that holds something is there
size_some : (o : Option Space) (n : ℕ) → n + 8 ≤ size_in o → IsSome o
size_some None n h = absurd (omega (arith, h))
size_some (Some space) n h = refl

-- what makes dataspaces those of chunks
pub record AreChunks (keys : List ℕ) (bytes : ℕ → List ℕ) : Type 0 where
  pub once : are_distinct keys ≡ true
  pub each : list_all (λ ds. are_bytes (bytes ds)) keys ≡ true
  pub few : length keys ≤ 64

pub sound_chunks : (keys : List ℕ) (bytes : ℕ → List ℕ) → are_chunks keys bytes ≡ true → AreChunks keys bytes
sound_chunks keys bytes h = grind (arith, nat_tests, and_parts)

pub chunks_sound : (keys : List ℕ) (bytes : ℕ → List ℕ) → AreChunks keys bytes → are_chunks keys bytes ≡ true
chunks_sound keys bytes h = grind (arith, nat_tests)

-- where a word is
pub record IsReached (keys : List ℕ) (store : Store) (chunk offset : ℕ) : Type 0 where
  pub sound : AreChunks keys (bytes_in_store store)
  pub there : chunk < length keys
  pub aligned : offset % 8 ≡ 0
  pub short : offset < 2 ^ 32
  pub long : offset + 8 ≤ length (bytes_in_store store (get_or keys chunk 0))
  pub exists : IsSome (get store.spaces (get_or keys chunk 0))

around_test : (sound there : Bool) (n offset : ℕ) → offset + 8 ≤ (cond (sound && there) n 0) → (sound ≡ true) × (there ≡ true) × (offset + 8 ≤ n)
around_test true true n offset h = (refl, refl, h)
around_test true false n offset h = absurd (omega (arith, h))
around_test false there n offset h = absurd (omega (arith, h))

pub is_reached : (keys : List ℕ) (store : Store) (chunk offset : ℕ) → IsWord (bytes_around (around keys store)) chunk offset → IsReached keys store chunk offset
unfolding bytes_around spaces_but
is_reached keys store chunk offset h = grind (arith, nat_tests, around_test, size_blank, sound_chunks, size_some)

room_test : (sound there : Bool) (n m : ℕ) → 0 < m → m ≤ (cond (sound && there) n 0) → m ≤ n
room_test true true n m some h = h
room_test true false n m some h = absurd (omega (arith, some, h))
room_test false there n m some h = absurd (omega (arith, some, h))

-- so many bytes of a chunk are words
pub room_within : (keys : List ℕ) (store : Store) (chunk m : ℕ) → 0 < m → m ≤ bytes_around (around keys store) chunk → m ≤ length (bytes_in_store store (get_or keys chunk 0))
unfolding bytes_around spaces_but
room_within keys store chunk m some h = grind (arith, nat_tests, room_test, size_blank)

-- ---- the word at a place

-- the word at an offset of a chunk
pub word_at_place : (keys : List ℕ) (bytes : ℕ → List ℕ) (chunk offset : ℕ) → chunk < length keys → offset < 2 ^ 32 → word_in keys bytes (place_at chunk offset) ≡ word_from (bytes (get_or keys chunk 0)) offset
unfolding word_in
word_at_place keys bytes chunk offset there short = grind (arith, nat_tests)

-- a word that is there
pub word_there : (bytes : List ℕ) (offset : ℕ) → offset % 8 ≡ 0 → offset + 8 ≤ length bytes → word_from bytes offset ≡ word_of (slice_range bytes offset (offset + 8))
word_there bytes offset aligned long = grind (arith, nat_tests)

-- ---- a store

-- numbers that are equal where a test passes, or else 0
pub same_if : (b : Bool) (x y : ℕ) → (b ≡ true → x ≡ y) → cond b x 0 ≡ cond b y 0
same_if true x y h = h refl
same_if false x y h = refl

-- two multiples of 8 that differ lie 8 apart
parted : (a b : ℕ) → a % 8 ≡ 0 → b % 8 ≡ 0 → a ≢ b → (a + 8 ≤ b) ⊎ (b + 8 ≤ a)
parted a b even other apart = ⊎_elim (λ (low : a < b). inl (omega (arith, low, even, other))) (λ (high : b ≤ a). inr (omega (arith, high, even, other, apart))) (cases_lt a b)

module _ (bytes : List ℕ) (offset value : ℕ) (aligned : offset % 8 ≡ 0) (long : offset + 8 ≤ length bytes) where
  abbrev pub after : List ℕ
  after = with_bytes bytes offset (word_bytes value)

  fits : offset + length (word_bytes value) ≤ length bytes
  fits = let l = length-word_bytes value in omega (arith, long, l)

  pub length_after : length after ≡ length bytes
  length_after = length-with_bytes bytes offset (word_bytes value) fits

  -- the word reads back
  pub word_back : value < 2 ^ 64 → word_from after offset ≡ value
  word_back small = search (rules, word_there, length_after, length-word_bytes, slice_range-with_bytes, fits, word_of-word_bytes)

  -- every other word stays
  pub word_elsewhere : (other : ℕ) → other ≢ offset → word_from after other ≡ word_from bytes other
  word_elsewhere other apart = search (rules, length_after, same_if, and_parts, range_before, fits, length-word_bytes, range_after, parted)

-- bytes put over bytes leave bytes
pub bytes_put : (bytes : List ℕ) (offset : ℕ) (part : List ℕ) → are_bytes bytes ≡ true → are_bytes part ≡ true → are_bytes (with_bytes bytes offset part) ≡ true
unfolding with_bytes
bytes_put bytes offset part h g = grind (arith, nat_tests, list_all-append, bytes_taken, bytes_dropped)

-- a dataspace with its bytes left out is the same for bytes of one length
blank_same : (o : Option Space) (bytes : List ℕ) → IsSome o → length bytes ≡ size_in o → option_map (blank_if true) (Some (record { payer = (unwrap_or o (record { payer = 0; bytes = [] })).payer; bytes = bytes })) ≡ option_map (blank_if true) o
blank_same None bytes there e = cc
blank_same (Some space) bytes there e = ap (λ n. Some (record { payer = space.payer; bytes = zeros n })) e

-- bytes put into a chunk's dataspace
module _ (keys : List ℕ) (store : Store) (chunk offset : ℕ) (bytes : List ℕ) (sound : AreChunks keys (bytes_in_store store)) (there : chunk < length keys)
    (exists : IsSome (get store.spaces (get_or keys chunk 0))) (room : offset + length bytes ≤ length (bytes_in_store store (get_or keys chunk 0))) (are : are_bytes bytes ≡ true) where
  -- the memory then
  abbrev pub put : Store
  put = with_bytes_at store (get_or keys chunk 0) offset bytes

  pub put_at : (k : ℕ) → k ≡ get_or keys chunk 0 → bytes_in_store put k ≡ with_bytes (bytes_in_store store (get_or keys chunk 0)) offset bytes
  put_at k same = ap (λ (o : Option Space). (unwrap_or o (record { payer = 0; bytes = [] })).bytes) (get-insert_same store.spaces (get_or keys chunk 0) _ k same)

  pub put_other : (k : ℕ) → k ≢ get_or keys chunk 0 → bytes_in_store put k ≡ bytes_in_store store k
  put_other k other = ap (λ (o : Option Space). (unwrap_or o (record { payer = 0; bytes = [] })).bytes) (get-insert_other store.spaces (get_or keys chunk 0) _ k other)

  put_bytes : (i : ℕ) → i < length keys → are_bytes (bytes_in_store put (get_or keys i 0)) ≡ true
  put_bytes i in_keys = ⊎_elim
      (λ (same : get_or keys i 0 ≡ get_or keys chunk 0).
      ap are_bytes (put_at (get_or keys i 0) same) ∙ bytes_put (bytes_in_store store (get_or keys chunk 0)) offset bytes (each_bytes keys (bytes_in_store store) chunk sound.each there) are)
      (λ (other : get_or keys i 0 ≢ get_or keys chunk 0). ap are_bytes (put_other (get_or keys i 0) other) ∙ each_bytes keys (bytes_in_store store) i sound.each in_keys)
      (cases_eq (get_or keys i 0) (get_or keys chunk 0))

  put_sound : are_chunks keys (bytes_in_store put) ≡ are_chunks keys (bytes_in_store store)
  put_sound = grind (arith, nat_tests, all_bytes, put_bytes, chunks_sound)

  put_spaces : (k : ℕ) → spaces_but keys put k ≡ spaces_but keys store k
  unfolding spaces_but
  put_spaces k = ⊎_elim
      (λ (same : k ≡ get_or keys chunk 0).
      let hidden : is_among keys k ≡ true = ap (is_among keys) same ∙ among_there keys chunk there in
      rw (hidden, get-insert_same store.spaces (get_or keys chunk 0) _ k same)
      (blank_same (get store.spaces (get_or keys chunk 0)) _ exists (length-with_bytes (bytes_in_store store (get_or keys chunk 0)) offset bytes room)
      ∙ ap (λ n. option_map (blank_if true) (get store.spaces n)) (sym same)))
      (λ (other : k ≢ get_or keys chunk 0). ap (option_map (blank_if (is_among keys k))) (get-insert_other store.spaces (get_or keys chunk 0) _ k other))
      (cases_eq k (get_or keys chunk 0))

  -- nothing around changes
  pub put_around : around keys put ≡ around keys store
  put_around = λ i. record { keys = keys; sound = put_sound i; store = record store { spaces = empty }; spaces = λ k. put_spaces k i }

module _ (keys : List ℕ) (store : Store) (chunk offset value : ℕ) (at : IsReached keys store chunk offset) (small : value < 2 ^ 64) where
  abbrev pub ds : ℕ
  ds = get_or keys chunk 0

  abbrev pub now : ℕ → List ℕ
  now = bytes_in_store store

  abbrev pub stored : Store
  stored = with_bytes_at store ds offset (word_bytes value)

  bytes_at : (k : ℕ) → k ≡ ds → bytes_in_store stored k ≡ after (now ds) offset value at.aligned at.long
  bytes_at k same = ap (λ (o : Option Space). (unwrap_or o (record { payer = 0; bytes = [] })).bytes) (get-insert_same store.spaces ds _ k same)

  bytes_other : (k : ℕ) → k ≢ ds → bytes_in_store stored k ≡ now k
  bytes_other k other = ap (λ (o : Option Space). (unwrap_or o (record { payer = 0; bytes = [] })).bytes) (get-insert_other store.spaces ds _ k other)

  -- a word of a chunk at another place than this one
  in_chunk : (c o : ℕ) → c < length keys → ((c ≡ chunk) → o ≢ offset) → word_from (bytes_in_store stored (get_or keys c 0)) o ≡ word_from (now (get_or keys c 0)) o
  in_chunk c o there apart = search (rules, bytes_at, word_elsewhere, bytes_other, distinct_apart, cases_eq)

  elsewhere : (q : ℕ) → q ≢ place_at chunk offset → word_in keys (bytes_in_store stored) q ≡ word_in keys now q
  unfolding word_in
  elsewhere q other = search (rules, in_chunk, cases_lt)

  each : (q : ℕ) → word_in keys (bytes_in_store stored) q ≡ with_word (word_in keys now) (place_at chunk offset) value q
  unfolding with_word
  each q = search (rules, word_at_place, bytes_at, word_back, elsewhere, cases_eq)

  -- that word is another one
  pub words_stored : word_in keys (bytes_in_store stored) ≡ with_word (word_in keys now) (place_at chunk offset) value
  words_stored = λ i q. each q i

  -- and nothing around changes
  pub around_kept : around keys stored ≡ around keys store
  around_kept = grind (arith, nat_tests, length-word_bytes, put_around, below_bytes, word_bytes-lt)

-- ---- chunks by their numbers

pub length_keys : (chunks : List Chunk) → length (keys_of chunks) ≡ length chunks
length_keys chunks = length-map chunks (λ (chunk : Chunk). chunk.ds.0)

-- the dataspace of a chunk
pub key_at : (chunks : List Chunk) (i : ℕ) (d : Chunk) → i < length (keys_of chunks) → get_or (keys_of chunks) i 0 ≡ (get_or chunks i d).ds.0
key_at chunks i d there = get_or-map (λ (chunk : Chunk). chunk.ds.0) chunks i d 0 (subst (λ n. i < n) (length_keys chunks) there)
