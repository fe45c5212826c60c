-- Which places are taken, by bits: a word for each 64 places, and one above the words.
use Rattle.std.specs.Prelude.{◌≡◌, ◌≢◌, ℕ, ◌+◌, ◌/◌, ◌%◌, ◌^◌, ◌<◌, List, length, slice_index}
use Rattle.std.specs.Int.{bit_at}

-- the bit of a place: 1 if it is taken
abbrev pub mark_at : List ℕ → ℕ → ℕ
mark_at words place = bit_at (slice_index words (place / 64)) (place % 64)

-- the bit of a word above tells whether all bits of that word are 1
pub record AreSummed (words : List ℕ) (full : ℕ) : Type 0 where
  pub long : length words ≡ 64
  pub ones : (word : ℕ) → word < 64 → bit_at full word ≡ 1 → slice_index words word + 1 ≡ 2 ^ 64
  pub fewer : (word : ℕ) → word < 64 → bit_at full word ≡ 0 → slice_index words word + 1 < 2 ^ 64

-- the bit of one place is this one now, and all others are as they were
pub record IsMarked (words new_words : List ℕ) (place mark : ℕ) : Type 0 where
  pub here : mark_at new_words place ≡ mark
  pub others : (other : ℕ) → other ≢ place → mark_at new_words other ≡ mark_at words other
