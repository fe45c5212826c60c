-- What a change of one bit does to the marks of all places, and to what is known of each word.
use Rattle.std.proofs.Common.{◌≡◌, ◌≢◌, ℕ, ◌+◌, ◌-◌, ◌*◌, ◌/◌, ◌%◌, ◌^◌, ◌<◌, ◌≤◌, List, length, get_or, set, replicate, bit_and, bit_or, w64, refl, sym, ap, ◌∙◌, inl, inr, arith, length-set, get_or-set_same, get_or-set_other}
use Rattle.std.specs.Int.{bit_at, bit_not, trailing_ones}
use Rattle.std.proofs.lemmas.Bool.{cases_eq, cases_lt}
use Rattle.std.proofs.lemmas.List.{get_or-replicate, get_or_past, length-replicate}
use Rattle.std.proofs.lemmas.Nat.{or_lt, and_le_l}
use Rattle.std.proofs.lemmas.Nat.Bits.{bit_at-zero, bit_at_ones, bit_at-trailing_ones, bit_at_set_same, bit_at_set_other, bit_at_clear_same, bit_at_clear_other}
use Rattle.cap_space.specs.PlaceBitmap.{mark_at, AreSummed, IsMarked}

-- a word that gets one bit, and keeps its others, marks one place
marked : (words : List ℕ) (place word mark : ℕ) → place / 64 < length words → bit_at word (place % 64) ≡ mark → ((i : ℕ) → i < 64 → i ≢ place % 64 → bit_at word i ≡ bit_at (get_or words (place / 64) 0) i) → IsMarked words (set words (place / 64) word) place mark
marked words place word mark within bit kept = record {
  here = ap (λ n. bit_at n (place % 64)) (get_or-set_same words (place / 64) word 0 within) ∙ bit;
  others = λ other differs. elim (cases_eq (other / 64) (place / 64)) as (λ _. mark_at (set words (place / 64) word) other ≡ mark_at words other) [
    | inl same ↦ rw (same, get_or-set_same words (place / 64) word 0 within) (kept (other % 64) (omega arith) (λ index. differs (omega arith)))
    | inr apart ↦ ap (λ n. bit_at n (other % 64)) (get_or-set_other words (place / 64) (other / 64) word 0 apart)
  ];
}

-- a word that is written, and its bit above
summed : (words : List ℕ) (full at word above : ℕ) → AreSummed words full → at < 64 → (bit_at above at ≡ 1 → word + 1 ≡ 2 ^ 64) → (bit_at above at ≡ 0 → word + 1 < 2 ^ 64) → ((w : ℕ) → w < 64 → w ≢ at → bit_at above w ≡ bit_at full w) → AreSummed (set words at word) above
summed words full at word above is within ones fewer kept =
    let here = get_or-set_same words at word 0 (omega (arith, is.long)) in
    record {
      long = length-set words at word ∙ is.long;
      ones = λ w below bit. elim (cases_eq w at) as (λ _. get_or (set words at word) w 0 + 1 ≡ 2 ^ 64) [
        | inl same ↦ rw (same, here) (ones (rw same at bit))
        | inr other ↦ rw (get_or-set_other words at w word 0 other) (is.ones w below (sym (kept w below other) ∙ bit))
      ];
      fewer = λ w below bit. elim (cases_eq w at) as (λ _. get_or (set words at word) w 0 + 1 < 2 ^ 64) [
        | inl same ↦ rw (same, here) (fewer (rw same at bit))
        | inr other ↦ rw (get_or-set_other words at w word 0 other) (is.fewer w below (sym (kept w below other) ∙ bit))
      ];
    }

-- ---- no place is taken

-- words of no ones have none
pub marks-free : (place : ℕ) → mark_at (replicate 64 0) place ≡ 0
marks-free place = elim (cases_lt (place / 64) 64) as (λ _. mark_at (replicate 64 0) place ≡ 0) [
  | inl below ↦ rw (get_or-replicate {A = ℕ} 64 (place / 64) 0 0 below) (bit_at-zero (place % 64))
  | inr past ↦ rw (get_or_past {X = ℕ} (replicate 64 0) (place / 64) 0 past) (bit_at-zero (place % 64))
]

-- and no word is full
pub summed-free : AreSummed (replicate 64 0) 0
summed-free = record {
  long = length-replicate {A = ℕ} 64 0;
  ones = λ w below bit. absurd (omega (arith, bit_at-zero w, bit));
  fewer = λ w below bit. rw (get_or-replicate {A = ℕ} 64 w 0 0 below) (omega arith);
}

-- ---- a place is taken or freed

module _ (words : List ℕ) (full place : ℕ) (is : AreSummed words full) (within : place < 4096) where
  -- the word of a place
  abbrev word_of : ℕ
  word_of = get_or words (place / 64) 0

  -- with the place taken
  abbrev taken : ℕ
  taken = bit_or word_of (1 * 2 ^ (place % 64) % 2 ^ 64)

  -- and freed
  abbrev freed : ℕ
  freed = bit_and word_of (bit_not w64 (1 * 2 ^ (place % 64) % 2 ^ 64))

  pub marked-taken : IsMarked words (set words (place / 64) taken) place 1
  marked-taken = marked words place taken 1 (omega (arith, is.long)) (bit_at_set_same w64 word_of (place % 64) (omega arith)) (λ i below. bit_at_set_other w64 word_of (place % 64) (omega arith) i)

  pub marked-freed : IsMarked words (set words (place / 64) freed) place 0
  marked-freed = marked words place freed 0 (omega (arith, is.long)) (bit_at_clear_same w64 word_of (place % 64) (omega arith)) (bit_at_clear_other w64 word_of (place % 64) (omega arith))

  -- the last free place of a word is taken
  pub summed-filled : taken + 1 ≡ 2 ^ 64 → AreSummed (set words (place / 64) taken) (bit_or full (1 * 2 ^ (place / 64) % 2 ^ 64))
  summed-filled ones =
      let at : place / 64 < 64 = omega arith in
      summed words full (place / 64) taken _ is at (λ _. ones) (λ bit. absurd (omega (arith, bit, bit_at_set_same w64 full (place / 64) at)))
      (λ w below. bit_at_set_other w64 full (place / 64) at w)

  -- another is
  pub summed-taken : word_of < 2 ^ 64 → taken + 1 ≢ 2 ^ 64 → mark_at words place ≡ 0 → AreSummed (set words (place / 64) taken) full
  summed-taken fits some free =
      let at : place / 64 < 64 = omega arith in
      let index : place % 64 < 64 = omega arith in
      let least : taken < 2 ^ 64 = or_lt 64 word_of _ fits (omega arith) in
      summed words full (place / 64) taken full is at
      (λ bit. let all : word_of ≡ 2 ^ 64 - 1 = omega (arith, is.ones (place / 64) at bit) in absurd (omega (arith, free, ap (λ n. bit_at n (place % 64)) all, bit_at_ones 64 (place % 64) index)))
      (λ _. omega arith) (λ w below other. refl)

  -- one is freed
  pub summed-freed : word_of < 2 ^ 64 → AreSummed (set words (place / 64) freed) (bit_and full (bit_not w64 (1 * 2 ^ (place / 64) % 2 ^ 64)))
  summed-freed fits =
      let at : place / 64 < 64 = omega arith in
      let index : place % 64 < 64 = omega arith in
      let least : freed ≤ word_of = and_le_l word_of _ in
      summed words full (place / 64) freed _ is at (λ bit. absurd (omega (arith, bit, bit_at_clear_same w64 full (place / 64) at)))
      (λ _. elim (cases_eq freed (2 ^ 64 - 1)) as (λ _. freed + 1 < 2 ^ 64) [
        | inl all ↦ absurd (omega (arith, bit_at_clear_same w64 word_of (place % 64) index, ap (λ n. bit_at n (place % 64)) all, bit_at_ones 64 (place % 64) index))
        | inr some ↦ omega arith
      ])
      (λ w below other. bit_at_clear_other w64 full (place / 64) at w below other)

-- ---- the least free place

module _ (words : List ℕ) (full : ℕ) (is : AreSummed words full) where
  -- where a word is full all its places are taken
  all_taken : (place : ℕ) → place / 64 < 64 → bit_at full (place / 64) ≡ 1 → mark_at words place ≡ 1
  all_taken place below bit =
      let all : get_or words (place / 64) 0 ≡ 2 ^ 64 - 1 = omega (arith, is.ones (place / 64) below bit) in
      ap (λ n. bit_at n (place % 64)) all ∙ bit_at_ones 64 (place % 64) (omega arith)

  -- where all words are full all places are taken
  pub taken-full : full + 1 ≡ 2 ^ 64 → (place : ℕ) → place < 4096 → mark_at words place ≡ 1
  taken-full ones place within =
      let all : full ≡ 2 ^ 64 - 1 = omega arith in
      all_taken place (omega arith) (ap (λ n. bit_at n (place / 64)) all ∙ bit_at_ones 64 (place / 64) (omega arith))

  -- the first place of the first word that isn't full
  pub record IsLeast (place : ℕ) : Type 0 where
    pub within : place < 4096
    pub free : mark_at words place ≡ 0
    pub first : (other : ℕ) → other < place → mark_at words other ≡ 1

  pub least : full + 1 < 2 ^ 64 → (word bit : ℕ) → word ≡ trailing_ones w64 full → bit ≡ trailing_ones w64 (get_or words word 0) → IsLeast (word * 64 + bit)
  least room word bit is_word is_bit =
      let above = bit_at-trailing_ones w64 full room in
      let below : word < 64 = omega (arith, above.0) in
      let some_free : bit_at full word ≡ 0 = ap (bit_at full) is_word ∙ above.1 in
      let within = bit_at-trailing_ones w64 (get_or words word 0) (is.fewer word below some_free) in
      let low : bit < 64 = omega (arith, within.0) in
      let at : (word * 64 + bit) / 64 ≡ word = omega arith in
      let index : (word * 64 + bit) % 64 ≡ bit = omega arith in
      record {
        within = omega arith;
        free = rw (at, index) (ap (bit_at (get_or words word 0)) is_bit ∙ within.1);
        first = λ other before. elim (cases_lt (other / 64) word) as (λ _. mark_at words other ≡ 1) [
          | inl lower ↦ all_taken other (omega arith) (above.2 (other / 64) (omega arith))
          | inr same ↦
              let here : other / 64 ≡ word = omega arith in
              rw here (within.2 (other % 64) (omega arith))
        ];
      }
