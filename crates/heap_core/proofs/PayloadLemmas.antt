-- The payloads of chunks by their addresses, and what taking a hole and giving a block back do to them.
use Rattle.std.proofs.Common.{rules, ◌≡◌, ◌≢◌, ℕ, zero, suc, ◌+◌, ◌-◌, ◌<◌, ◌≤◌, ◌==◌, ◌++◌, Bool, true, false, cond, eqb, List, [], ◌∷◌, length, get_or, set, refl, sym, ap, ◌∙◌, ⊎_elim, arith}
use Rattle.std.proofs.lemmas.Bool.{cases_eq, cases_lt}
use Rattle.std.proofs.lemmas.Bool.Decides.{nat_tests}
use Rattle.std.specs.Prelude.{Option, Some, None, nat_lt, slice_range}
use Rattle.std.specs.Option.{option_map, option_or}
use Rattle.own_model.proofs.NatMapJoinedLemmas.{or_nothing}
use Rattle.own_model.specs.BestFit.{used_at, chunk_of, taken_in, given_in}
use Rattle.own_model.specs.Entries.{value_of}
use Rattle.own_model.specs.Heap.{Block, Used, Hole, AreBlocks, Heap}
use Rattle.own_model.specs.HeapStep.{size_taken}
use Rattle.own_model.proofs.HeapBlockLemmas.{tail_blocks, used-taken, used-given, hole_at}
use Rattle.own_model.proofs.EntryLemmas.{value_of-cons, value_of-append}
use Rattle.dataspace_core.specs.Store.{Part, bytes_of}
use Rattle.heap_core.specs.declared.words.Chunk.{Chunk}
use Rattle.heap_core.specs.Heap.{payloads_from, payloads_of}

-- ---- one chunk

-- the payload that starts at an address, in a chunk that starts at another one, whose blocks stand from an offset of its bytes on
abbrev pub told : ℕ → ℕ → List ℕ → List Block → ℕ → Option (List ℕ)
told start offset bytes blocks q =
    cond (nat_lt q (start + offset + 16)) None (option_map (λ n. slice_range bytes (q - start) (q - start - 16 + n)) (used_at (q - 16 - (start + offset)) blocks))

-- a block of n bytes before others holds no address behind it
told-past : (start offset n : ℕ) (bytes : List ℕ) (rest : List Block) (q : ℕ) → 0 < n → q ≢ start + offset + 16 →
    told start (offset + n) bytes rest q
    ≡ cond (nat_lt q (start + offset + 16)) None (option_map (λ m. slice_range bytes (q - start) (q - start - 16 + m)) (cond (q - 16 - (start + offset) == 0) (Some n) (cond (nat_lt (q - 16 - (start + offset)) n) None (used_at (q - 16 - (start + offset) - n) rest))))
told-past start offset n bytes rest q some other = search (rules, cases_lt)

-- nor does a hole
told-hole : (start offset n : ℕ) (bytes : List ℕ) (rest : List Block) (q : ℕ) → 0 < n →
    told start (offset + n) bytes rest q ≡ told start offset bytes (Hole n ∷ rest) q
told-hole start offset n bytes rest q some = search (rules, cases_lt)

-- what the entries of a chunk's payloads tell of an address
pub value_of-payloads : (start offset : ℕ) (bytes : List ℕ) (blocks : List Block) (q : ℕ) → AreBlocks blocks → value_of q (payloads_from start offset bytes blocks) ≡ told start offset bytes blocks q
value_of-payloads start offset bytes [] q sizes = grind (arith, nat_tests, cases_lt)
value_of-payloads start offset bytes (Used n ∷ rest) q sizes = grind (arith, nat_tests, value_of-cons, told-past, cases_eq, value_of-payloads start (offset + n) bytes rest q sizes.1)
value_of-payloads start offset bytes (Hole n ∷ rest) q sizes =
    let parts = tail_blocks (Hole n) rest sizes in
    let least = parts.0.least in
    value_of-payloads start (offset + n) bytes rest q parts.1
    ∙ told-hole start offset n bytes rest q (omega (arith, least))

-- after a hole is taken for a block, its payload is one more
pub told-taken : (start : ℕ) (bytes : List ℕ) (size h offset : ℕ) (blocks : List Block) (q : ℕ) → AreBlocks blocks → hole_at offset blocks ≡ Some h →
    told start 0 bytes (taken_in size offset blocks) q
    ≡ cond (eqb q (start + offset + 16)) (Some (slice_range bytes (offset + 16) (offset + size_taken size h))) (told start 0 bytes blocks q)
told-taken start bytes size h offset blocks q sizes at = ⊎_elim
    (λ (low : q < start + 0 + 16).
    let a : nat_lt q (start + 0 + 16) ≡ true = grind (arith, nat_tests) in
    let t : eqb q (start + offset + 16) ≡ false = grind (arith, nat_tests) in rw (a, t) refl)
    (λ (high : start + 0 + 16 ≤ q).
    let a : nat_lt q (start + 0 + 16) ≡ false = grind (arith, nat_tests) in
    rw (a, used-taken size h (q - 16 - (start + 0)) offset blocks sizes at) (⊎_elim
    (λ (same : q ≡ start + offset + 16).
    let t : eqb q (start + offset + 16) ≡ true = grind (arith, nat_tests) in
    let u : eqb (q - 16 - (start + 0)) offset ≡ true = grind (arith, nat_tests) in
    let from : q - start ≡ offset + 16 = omega (arith, same) in
    let to : offset + 16 - 16 + size_taken size h ≡ offset + size_taken size h = omega arith in
    rw (t, u, from, to) refl)
    (λ (other : q ≢ start + offset + 16).
    let t : eqb q (start + offset + 16) ≡ false = grind (arith, nat_tests) in
    let u : eqb (q - 16 - (start + 0)) offset ≡ false = grind (arith, nat_tests) in
    rw (t, u) refl)
    (cases_eq q (start + offset + 16))))
    (cases_lt q (start + 0 + 16))

-- after a block is given back, its payload is gone
pub told-given : (start : ℕ) (bytes : List ℕ) (n offset : ℕ) (blocks : List Block) (q : ℕ) → AreBlocks blocks → used_at offset blocks ≡ Some n →
    told start 0 bytes (given_in offset blocks) q ≡ cond (eqb q (start + offset + 16)) None (told start 0 bytes blocks q)
told-given start bytes n offset blocks q sizes at = search (rules, used-given, cases_eq, cases_lt)

-- ---- all chunks

-- a chunk of nothing
abbrev pub no_chunk : Chunk
no_chunk = record { ds = record { 0 = 0 }; start = 0 }

-- the entries of the payloads of a chunk
abbrev pub entries_of : Part → Chunk → List Block → List (ℕ × List ℕ)
entries_of part chunk blocks = payloads_from chunk.start 0 (bytes_of part chunk.ds.0) blocks

or_cond : {X : Type 0} (b : Bool) (o p : Option X) (v : X) → option_or (cond b (Some v) o) p ≡ cond b (Some v) (option_or o p)
or_cond true o p v = refl
or_cond false o p v = refl

or_cond_last : {X : Type 0} (b : Bool) (o p : Option X) (v : X) → (b ≡ true → o ≡ None) → option_or o (cond b (Some v) p) ≡ cond b (Some v) (option_or o p)
or_cond_last true o p v none = ap (λ (x : Option _). option_or x (Some v)) (none refl)
or_cond_last false o p v none = refl

or_cond_none : {X : Type 0} (b : Bool) (o p : Option X) → (b ≡ true → p ≡ None) → option_or (cond b None o) p ≡ cond b None (option_or o p)
or_cond_none true o p none = none refl
or_cond_none false o p none = refl

or_cond_none_last : {X : Type 0} (b : Bool) (o p : Option X) → (b ≡ true → o ≡ None) → option_or o (cond b None p) ≡ cond b None (option_or o p)
or_cond_none_last true o p none = ap (λ (x : Option _). option_or x None) (none refl)
or_cond_none_last false o p none = refl

module _ (part : Part) (address : ℕ) where
  -- one chunk's payloads are one more, and no chunk before has one there
  pub payloads-more : (payload : List ℕ) (chunks : List Chunk) (heap : Heap) (c : ℕ) (blocks : List Block) (q : ℕ) →
      c < length chunks → c < length heap →
      (value_of q (entries_of part (get_or chunks c no_chunk) blocks) ≡ cond (eqb q address) (Some payload) (value_of q (entries_of part (get_or chunks c no_chunk) (chunk_of heap c)))) →
      ((k : ℕ) → k < c → value_of address (entries_of part (get_or chunks k no_chunk) (chunk_of heap k)) ≡ None) →
      value_of q (payloads_of part chunks (set heap c blocks)) ≡ cond (eqb q address) (Some payload) (value_of q (payloads_of part chunks heap))
  payloads-more payload [] heap c blocks q in_chunks in_heap more none = absurd (omega (arith, in_chunks))
  payloads-more payload (x ∷ xs) [] c blocks q in_chunks in_heap more none = absurd (omega (arith, in_heap))
  payloads-more payload (x ∷ xs) (y ∷ ys) zero blocks q in_chunks in_heap more none = grind (arith, nat_tests, value_of-append, or_cond)
  payloads-more payload (x ∷ xs) (y ∷ ys) (suc c) blocks q in_chunks in_heap more none =
      value_of-append q (entries_of part x y) (payloads_of part xs (set ys c blocks))
      ∙ ap (option_or (value_of q (entries_of part x y))) (payloads-more payload xs ys c blocks q (omega (arith, in_chunks)) (omega (arith, in_heap)) more (λ k below. none (suc k) (omega (arith, below))))
      ∙ or_cond_last (eqb q address) _ _ payload (λ e. let same : q ≡ address = grind (arith, nat_tests) in ap (λ a. value_of a (entries_of part x y)) same ∙ none 0 (omega arith))
      ∙ ap (cond (eqb q address) (Some payload)) (sym (value_of-append q (entries_of part x y) (payloads_of part xs ys)))

  -- where no chunk has a payload there, there is none
  pub payloads-none : (chunks : List Chunk) (heap : Heap) → ((k : ℕ) → value_of address (entries_of part (get_or chunks k no_chunk) (chunk_of heap k)) ≡ None) →
      value_of address (payloads_of part chunks heap) ≡ None
  payloads-none [] heap none = refl
  payloads-none (x ∷ xs) [] none = refl
  payloads-none (x ∷ xs) (y ∷ ys) none =
      value_of-append address (entries_of part x y) (payloads_of part xs ys)
      ∙ ap (λ o. option_or o (value_of address (payloads_of part xs ys))) (none 0)
      ∙ payloads-none xs ys (λ k. none (suc k))

  -- where no other chunk has one there, it is the one chunk's
  pub payloads-at : (chunks : List Chunk) (heap : Heap) (c : ℕ) → c < length chunks → c < length heap →
      ((k : ℕ) → k ≢ c → value_of address (entries_of part (get_or chunks k no_chunk) (chunk_of heap k)) ≡ None) →
      value_of address (payloads_of part chunks heap) ≡ value_of address (entries_of part (get_or chunks c no_chunk) (chunk_of heap c))
  payloads-at [] heap c in_chunks in_heap none = absurd (omega (arith, in_chunks))
  payloads-at (x ∷ xs) [] c in_chunks in_heap none = absurd (omega (arith, in_heap))
  payloads-at (x ∷ xs) (y ∷ ys) zero in_chunks in_heap none =
      value_of-append address (entries_of part x y) (payloads_of part xs ys)
      ∙ ap (option_or (value_of address (entries_of part x y))) (payloads-none xs ys (λ k. none (suc k) (λ e. absurd (omega (arith, e)))))
      ∙ or_nothing (value_of address (entries_of part x y))
  payloads-at (x ∷ xs) (y ∷ ys) (suc c) in_chunks in_heap none =
      value_of-append address (entries_of part x y) (payloads_of part xs ys)
      ∙ ap (λ o. option_or o (value_of address (payloads_of part xs ys))) (none 0 (λ e. absurd (omega (arith, e))))
      ∙ payloads-at xs ys c (omega (arith, in_chunks)) (omega (arith, in_heap)) (λ k other. none (suc k) (λ e. other (omega (arith, e))))

  -- one chunk has a payload less, and no other has one there
  pub payloads-less : (chunks : List Chunk) (heap : Heap) (c : ℕ) (blocks : List Block) (q : ℕ) →
      c < length chunks → c < length heap →
      (value_of q (entries_of part (get_or chunks c no_chunk) blocks) ≡ cond (eqb q address) None (value_of q (entries_of part (get_or chunks c no_chunk) (chunk_of heap c)))) →
      ((k : ℕ) → k ≢ c → value_of address (entries_of part (get_or chunks k no_chunk) (chunk_of heap k)) ≡ None) →
      value_of q (payloads_of part chunks (set heap c blocks)) ≡ cond (eqb q address) None (value_of q (payloads_of part chunks heap))
  payloads-less [] heap c blocks q in_chunks in_heap less none = absurd (omega (arith, in_chunks))
  payloads-less (x ∷ xs) [] c blocks q in_chunks in_heap less none = absurd (omega (arith, in_heap))
  payloads-less (x ∷ xs) (y ∷ ys) zero blocks q in_chunks in_heap less none =
      value_of-append q (entries_of part x blocks) (payloads_of part xs ys)
      ∙ ap (λ o. option_or o (value_of q (payloads_of part xs ys))) less
      ∙ or_cond_none (eqb q address) _ _ (λ e. let same : q ≡ address = grind (arith, nat_tests) in
      ap (λ a. value_of a (payloads_of part xs ys)) same ∙ payloads-none xs ys (λ k. none (suc k) (λ f. absurd (omega (arith, f)))))
      ∙ ap (cond (eqb q address) None) (sym (value_of-append q (entries_of part x y) (payloads_of part xs ys)))
  payloads-less (x ∷ xs) (y ∷ ys) (suc c) blocks q in_chunks in_heap less none =
      value_of-append q (entries_of part x y) (payloads_of part xs (set ys c blocks))
      ∙ ap (option_or (value_of q (entries_of part x y))) (payloads-less xs ys c blocks q (omega (arith, in_chunks)) (omega (arith, in_heap)) less (λ k other. none (suc k) (λ e. other (omega (arith, e)))))
      ∙ or_cond_none_last (eqb q address) _ _ (λ e. let same : q ≡ address = grind (arith, nat_tests) in
      ap (λ a. value_of a (entries_of part x y)) same ∙ none 0 (λ f. absurd (omega (arith, f))))
      ∙ ap (cond (eqb q address) None) (sym (value_of-append q (entries_of part x y) (payloads_of part xs ys)))

-- parts in which each chunk tells the same of an address tell the same of it
pub payloads-same : (old new : Part) (q : ℕ) (chunks : List Chunk) (heap : Heap) →
    ((k : ℕ) → k < length chunks → value_of q (entries_of new (get_or chunks k no_chunk) (chunk_of heap k)) ≡ value_of q (entries_of old (get_or chunks k no_chunk) (chunk_of heap k))) →
    value_of q (payloads_of new chunks heap) ≡ value_of q (payloads_of old chunks heap)
payloads-same old new q [] heap alike = refl
payloads-same old new q (x ∷ xs) [] alike = refl
payloads-same old new q (x ∷ xs) (y ∷ ys) alike =
    value_of-append q (entries_of new x y) (payloads_of new xs ys)
    ∙ ap (λ o. option_or o (value_of q (payloads_of new xs ys))) (alike 0 (omega arith))
    ∙ ap (option_or (value_of q (entries_of old x y))) (payloads-same old new q xs ys (λ k below. alike (suc k) (omega (arith, below))))
    ∙ sym (value_of-append q (entries_of old x y) (payloads_of old xs ys))

-- a chunk of one hole has no payload
pub payloads-hole : (part : Part) (chunks : List Chunk) (heap : Heap) (chunk : Chunk) (n : ℕ) → length chunks ≡ length heap →
    payloads_of part (chunks ++ chunk ∷ []) (heap ++ (Hole n ∷ []) ∷ []) ≡ payloads_of part chunks heap
payloads-hole part [] [] chunk n e = refl
payloads-hole part [] (y ∷ ys) chunk n e = absurd (omega (arith, e))
payloads-hole part (x ∷ xs) [] chunk n e = absurd (omega (arith, e))
payloads-hole part (x ∷ xs) (y ∷ ys) chunk n e = ap (λ es. entries_of part x y ++ es) (payloads-hole part xs ys chunk n (omega (arith, e)))

-- in one chunk a part tells another payload of an address, and of no other chunk anything else
pub payloads-put : (old new : Part) (address : ℕ) (payload : List ℕ) (chunks : List Chunk) (heap : Heap) (c q : ℕ) → c < length chunks → c < length heap →
    (value_of q (entries_of new (get_or chunks c no_chunk) (chunk_of heap c)) ≡ cond (eqb q address) (Some payload) (value_of q (entries_of old (get_or chunks c no_chunk) (chunk_of heap c)))) →
    ((k : ℕ) → k < length chunks → k ≢ c → value_of q (entries_of new (get_or chunks k no_chunk) (chunk_of heap k)) ≡ value_of q (entries_of old (get_or chunks k no_chunk) (chunk_of heap k))) →
    ((k : ℕ) → k < c → value_of address (entries_of old (get_or chunks k no_chunk) (chunk_of heap k)) ≡ None) →
    value_of q (payloads_of new chunks heap) ≡ cond (eqb q address) (Some payload) (value_of q (payloads_of old chunks heap))
payloads-put old new address payload [] heap c q in_chunks in_heap here alike none = absurd (omega (arith, in_chunks))
payloads-put old new address payload (x ∷ xs) [] c q in_chunks in_heap here alike none = absurd (omega (arith, in_heap))
payloads-put old new address payload (x ∷ xs) (y ∷ ys) zero q in_chunks in_heap here alike none =
    value_of-append q (entries_of new x y) (payloads_of new xs ys)
    ∙ ap (λ o. option_or o (value_of q (payloads_of new xs ys))) here
    ∙ ap (option_or (cond (eqb q address) (Some payload) (value_of q (entries_of old x y)))) (payloads-same old new q xs ys (λ k below. alike (suc k) (omega (arith, below)) (λ e. absurd (omega (arith, e)))))
    ∙ or_cond (eqb q address) _ _ payload
    ∙ ap (cond (eqb q address) (Some payload)) (sym (value_of-append q (entries_of old x y) (payloads_of old xs ys)))
payloads-put old new address payload (x ∷ xs) (y ∷ ys) (suc c) q in_chunks in_heap here alike none =
    value_of-append q (entries_of new x y) (payloads_of new xs ys)
    ∙ ap (λ o. option_or o (value_of q (payloads_of new xs ys))) (alike 0 (omega arith) (λ e. absurd (omega (arith, e))))
    ∙ ap (option_or (value_of q (entries_of old x y))) (payloads-put old new address payload xs ys c q (omega (arith, in_chunks)) (omega (arith, in_heap)) here (λ k below other. alike (suc k) (omega (arith, below)) (λ e. other (omega (arith, e)))) (λ k below. none (suc k) (omega (arith, below))))
    ∙ or_cond_last (eqb q address) _ _ payload (λ e. let same : q ≡ address = grind (arith, nat_tests) in ap (λ a. value_of a (entries_of old x y)) same ∙ none 0 (omega arith))
    ∙ ap (cond (eqb q address) (Some payload)) (sym (value_of-append q (entries_of old x y) (payloads_of old xs ys)))
