-- A row of words as chunks: what is read and written of it.
use Rattle.std.proofs.Common.{◌≡◌, ◌≢◌, ℕ, ◌+◌, ◌-◌, ◌*◌, ◌/◌, ◌%◌, ◌^◌, ◌<◌, ◌≤◌, true, false, refl, sym, ap, ◌∙◌, subst, arith, List, [], ◌∷◌, ◌++◌, length}
use Rattle.std.specs.Prelude.{◌==◌, nat_le, if◌then◌else◌, slice_index, slice_set}
use Rattle.std.proofs.lemmas.Bool.Decides.{nat_tests}
use Rattle.std.proofs.lemmas.List.{get_or-set_same, get_or-set_other, length-set, length-append, length-map}
use Rattle.own_model.specs.Heap.{bytes_in}
use Rattle.avl_alloc.specs.declared.best_fit.BestFit.{BestFit}
use Rattle.avl_alloc.specs.Words.{place_at, with_word, IsWord}
use Rattle.avl_alloc.specs.Layout.{heap_of, sizes_of, IsSound}
use Rattle.layer_tests.specs.Cells.{is_cell, cell_at, cell_bytes, IsTrial}
use Rattle.avl_alloc.proofs.LayoutLemmas.{sound_sized, fits_one_more}

-- a chunk that has bytes has its words in the row
pub cell_room : (n chunk offset : ℕ) → IsWord (cell_bytes n) chunk offset → (chunk * 32768 + offset / 8 < n) × (offset < 262144)
unfolding cell_bytes
cell_room n chunk offset word =
    let within = word.within in
    elim (nat_le ((chunk + 1) * 32768) n) as (λ v. nat_le ((chunk + 1) * 32768) n ≡ v → offset + 8 ≤ (if v then 262144 else 0) → (chunk * 32768 + offset / 8 < n) × (offset < 262144)) [
      | true ↦ λ is le. let room : (chunk + 1) * 32768 ≤ n = grind (arith, nat_tests) in (omega arith, omega arith)
      | false ↦ λ is le. absurd (omega arith)
    ] refl within

cell_parts : (q : ℕ) → is_cell q ≡ true → (2 ^ 32 ≤ q) × (q % 8 ≡ 0) × (q % 2 ^ 32 < 262144)
cell_parts q is = (grind (arith, nat_tests), grind (arith, nat_tests), grind (arith, nat_tests))

cell_is : (chunk offset : ℕ) → offset % 8 ≡ 0 → offset < 262144 → is_cell (place_at chunk offset) ≡ true
cell_is chunk offset even low =
    let some : 2 ^ 32 ≤ place_at chunk offset = omega arith in
    let step : place_at chunk offset % 8 ≡ 0 = omega arith in
    let short : place_at chunk offset % 2 ^ 32 < 262144 = omega arith in
    grind (arith, nat_tests)

-- two places have two words
cell_alone : (q chunk offset : ℕ) → is_cell q ≡ true → offset % 8 ≡ 0 → offset < 262144 → (q / 2 ^ 32 - 1) * 32768 + q % 2 ^ 32 / 8 ≡ chunk * 32768 + offset / 8 → q ≡ place_at chunk offset
cell_alone q chunk offset is even low same =
    let parts = cell_parts q is in
    omega (arith, parts.0, parts.1, parts.2)

-- the word at a place
pub cell_read : (words : List ℕ) (chunk offset : ℕ) → IsWord (cell_bytes (length words)) chunk offset → slice_index words (chunk * 32768 + offset / 8) ≡ cell_at words (place_at chunk offset)
unfolding cell_at
cell_read words chunk offset word =
    let room = cell_room (length words) chunk offset word in
    let is = cell_is chunk offset word.aligned room.1 in
    let there : chunk * 32768 + offset / 8 ≡ (place_at chunk offset / 2 ^ 32 - 1) * 32768 + place_at chunk offset % 2 ^ 32 / 8 = omega arith in
    subst (λ v. slice_index words (chunk * 32768 + offset / 8) ≡ (if v then slice_index words ((place_at chunk offset / 2 ^ 32 - 1) * 32768 + place_at chunk offset % 2 ^ 32 / 8) else 0))
    (sym is) (ap (slice_index words) there)

-- a word that is put at one changes no other
module _ (words : List ℕ) (chunk offset value : ℕ) (word : IsWord (cell_bytes (length words)) chunk offset) where
  put_here : cell_at (slice_set words (chunk * 32768 + offset / 8) value) (place_at chunk offset) ≡ value
  put_here =
      let room = cell_room (length words) chunk offset word in
      let word' : IsWord (cell_bytes (length (slice_set words (chunk * 32768 + offset / 8) value))) chunk offset = rw length-set word in
      sym (cell_read (slice_set words (chunk * 32768 + offset / 8) value) chunk offset word') ∙ get_or-set_same words (chunk * 32768 + offset / 8) value 0 room.0

  put_elsewhere : (q : ℕ) → q ≢ place_at chunk offset → cell_at (slice_set words (chunk * 32768 + offset / 8) value) q ≡ cell_at words q
  unfolding cell_at
  put_elsewhere q other =
      elim (is_cell q) as (λ v. is_cell q ≡ v → (if v then slice_index (slice_set words (chunk * 32768 + offset / 8) value) ((q / 2 ^ 32 - 1) * 32768 + q % 2 ^ 32 / 8) else 0) ≡ (if v then slice_index words ((q / 2 ^ 32 - 1) * 32768 + q % 2 ^ 32 / 8) else 0)) [
        | true ↦ λ is. get_or-set_other words (chunk * 32768 + offset / 8) ((q / 2 ^ 32 - 1) * 32768 + q % 2 ^ 32 / 8) value 0 (λ same. other (cell_alone q chunk offset is word.aligned (cell_room (length words) chunk offset word).1 same))
        | false ↦ λ is. refl
      ] refl

  put_each : (q : ℕ) → cell_at (slice_set words (chunk * 32768 + offset / 8) value) q ≡ with_word (cell_at words) (place_at chunk offset) value q
  unfolding with_word
  put_each q =
      elim (q == place_at chunk offset) as (λ v. (q == place_at chunk offset) ≡ v → cell_at (slice_set words (chunk * 32768 + offset / 8) value) q ≡ (if v then value else cell_at words q)) [
        | true ↦ λ is. let at : place_at chunk offset ≡ q = grind (arith, nat_tests) in subst (λ z. cell_at (slice_set words (chunk * 32768 + offset / 8) value) z ≡ value) at put_here
        | false ↦ λ is. put_elsewhere q (grind (arith, nat_tests))
      ] refl

  pub cell_put : cell_at (slice_set words (chunk * 32768 + offset / 8) value) ≡ with_word (cell_at words) (place_at chunk offset) value
  cell_put = λ i q. put_each q i

-- a chunk for which the row has words has its bytes
pub cell_chunk : (n chunk bytes : ℕ) → (chunk + 1) * 32768 ≤ n → bytes ≤ 262144 → bytes ≤ cell_bytes n chunk
unfolding cell_bytes
cell_chunk n chunk bytes le few = let is : nat_le ((chunk + 1) * 32768) n ≡ true = grind (arith, nat_tests) in simp is few

-- a trial without a chunk
pub trial_empty : (fit : BestFit) (words : List ℕ) → IsSound fit (cell_at words) → sizes_of fit ≡ [] → IsTrial fit words 0
trial_empty fit words sound none = record {
  sound = sound;
  fits = subst (λ s. (chunk : ℕ) → slice_index s chunk ≤ cell_bytes (length words) chunk) (sym none) (λ chunk. omega arith);
  counted = ap length none;
}

-- a chunk more in a trial
pub trial_more : (old new : BestFit) (before after : List ℕ) (chunks bytes : ℕ) → IsTrial old before chunks → length after ≡ length before → bytes ≤ cell_bytes (length before) chunks →
    IsSound new (cell_at after) → sizes_of new ≡ sizes_of old ++ bytes ∷ [] → IsTrial new after (chunks + 1)
trial_more old new before after chunks bytes trial long room sound sizes = record {
  sound = sound;
  fits = rw long (subst (λ s. (chunk : ℕ) → slice_index s chunk ≤ cell_bytes (length before) chunk) (sym sizes)
      (fits_one_more (sizes_of old) bytes (cell_bytes (length before)) trial.fits (subst (λ n. bytes ≤ cell_bytes (length before) n) (sym trial.counted) room)));
  counted = ap length sizes ∙ length-append (sizes_of old) (bytes ∷ []) ∙ ap (λ n. n + 1) trial.counted;
}

pub trial_next : (fit : BestFit) (words : List ℕ) (chunks : ℕ) → IsTrial fit words chunks → chunks ≡ length (heap_of fit (cell_at words))
trial_next fit words chunks trial =
    sym trial.counted ∙ ap length (sym (sound_sized fit (cell_at words) trial.sound)) ∙ length-map (heap_of fit (cell_at words)) bytes_in
