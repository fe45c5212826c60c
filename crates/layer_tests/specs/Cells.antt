-- Adjacent chunks of 64 pages in one row of words: a memory for tests of the heap.
use Rattle.std.specs.Prelude.{◌≡◌, ℕ, ◌+◌, ◌-◌, ◌*◌, ◌/◌, ◌%◌, ◌^◌, ◌==◌, ◌&&◌, Bool, nat_lt, nat_le, if◌then◌else◌, List, slice_index, length}
use Rattle.avl_alloc.specs.declared.best_fit.BestFit.{BestFit}
use Rattle.avl_alloc.specs.FreeBlocks.{Fits}
use Rattle.avl_alloc.specs.Layout.{IsSound, sizes_of, bytes_of}

-- a place at which the row can have a word
abbrev pub is_cell : ℕ → Bool
is_cell place = nat_le (2 ^ 32) place && place % 8 == 0 && nat_lt (place % 2 ^ 32) 262144

-- the word at a place, 0 where there is none
unfoldable pub cell_at : List ℕ → ℕ → ℕ
cell_at words place = if is_cell place then slice_index words ((place / 2 ^ 32 - 1) * 32768 + place % 2 ^ 32 / 8) else 0

-- how many bytes of a chunk a row of so many words has
unfoldable pub cell_bytes : ℕ → ℕ → ℕ
cell_bytes words chunk = if nat_le ((chunk + 1) * 32768) words then 262144 else 0

-- a sound heap of so many chunks in a row of words
pub record IsTrial (fit : BestFit) (words : List ℕ) (chunks : ℕ) : Type 0 where
  pub sound : IsSound fit (cell_at words)
  pub fits : Fits (bytes_of fit) (cell_bytes (length words))
  pub counted : length (sizes_of fit) ≡ chunks
