-- Words by their places, and which places there are.
use Rattle.std.specs.Prelude.{◌≡◌, ℕ, ◌+◌, ◌-◌, ◌*◌, ◌/◌, ◌%◌, ◌^◌, ◌<◌, ◌≤◌, ◌==◌, if◌then◌else◌, nat_lt}

-- the word at each place
abbrev pub Words : Type 0
Words = ℕ → ℕ

-- a word put at a place, and every other word as it was
unfoldable pub with_word : Words → ℕ → ℕ → Words
with_word words place word = λ q. if q == place then word else words q

-- the place of an offset of a chunk: chunks are far apart, and 0 is no place
abbrev pub place_at : ℕ → ℕ → ℕ
place_at chunk offset = (chunk + 1) * 2 ^ 32 + offset

-- there is a word at an offset of a chunk: a multiple of 8 within the chunk's bytes
pub record IsWord (bytes : ℕ → ℕ) (chunk offset : ℕ) : Type 0 where
  pub aligned : offset % 8 ≡ 0
  pub within : offset + 8 ≤ bytes chunk
  pub short : offset < 2 ^ 32

-- there is a word at a place
pub record IsPlace (bytes : ℕ → ℕ) (place : ℕ) : Type 0 where
  pub some : 2 ^ 32 ≤ place
  pub word : IsWord bytes (place / 2 ^ 32 - 1) (place % 2 ^ 32)

-- at a place there is room for a hole's node, wholly in one chunk
pub record IsNode (bytes : ℕ → ℕ) (place : ℕ) : Type 0 where
  pub some : 2 ^ 32 ≤ place
  pub low : place < 2 ^ 40
  pub aligned : place % 16 ≡ 0
  pub short : place % 2 ^ 32 + 48 ≤ 2 ^ 32
  pub within : place % 2 ^ 32 + 48 ≤ bytes (place / 2 ^ 32 - 1)

-- 1 for a place from low up to and without high, else 0
unfoldable pub within : ℕ → ℕ → ℕ → ℕ
within low high q = if nat_lt q low then 0 else (if nat_lt q high then 1 else 0)
