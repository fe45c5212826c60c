-- A walk over the headers of a chunk's bytes.
use Rattle.std.specs.Prelude.{◌≡◌, ℕ, ◌+◌, ◌*◌, ◌/◌, ◌%◌, ◌^◌, ◌<◌, ◌≤◌, if◌then◌else◌, nat_lt, List, length, slice_range}
use Rattle.trade_base.specs.Word.{word_of}
use Rattle.own_model.specs.Heap.{Block, bytes_in}
use Rattle.avl_alloc.specs.Words.{Words}
use Rattle.avl_alloc.specs.Layout.{Laid}
use Rattle.heap_core.specs.Words.{word_from}
use Rattle.avl_alloc.specs.declared.chunk.Step.{Step}

-- these bytes have the words from a place on
abbrev pub HasWords : List ℕ → Words → ℕ → Type 0
HasWords bytes w start = (q : ℕ) → q % 8 ≡ 0 → q + 8 ≤ length bytes → q < 2 ^ 32 → w (start + q) ≡ word_from bytes q

-- these bytes are the page that has an offset, among words from a place on
abbrev pub IsPageOf : List ℕ → Words → ℕ → ℕ → Type 0
IsPageOf page w start offset = (q : ℕ) → q % 8 ≡ 0 → q + 8 ≤ 4096 → w (start + (offset / 4096 * 4096 + q)) ≡ word_of (slice_range page q (q + 8))

-- there are headers of these blocks, one of which contains an offset
pub record HasHeaders (w : Words) (start target : ℕ) (blocks : List Block) : Type 0 where
  pub laid : Laid w start blocks
  pub inside : target < bytes_in blocks

-- these blocks lie within a chunk of so many bytes
pub record HasRoom (blocks : List Block) (size : ℕ) : Type 0 where
  pub within : bytes_in blocks ≤ size
  pub short : bytes_in blocks ≤ 2 ^ 32

-- the step at an offset of the page that begins at a start, where the block before it is in the page, or else outside
abbrev pub step_at : ℕ → ℕ → ℕ → ℕ → ℕ → Step
step_at start outside before offset next = record { before = if nat_lt before offset then start + before else outside; offset = start + offset; next = start + next }

-- the header before that of a step is in so many bytes
pub record IsEarlier (step : Step) (size : ℕ) : Type 0 where
  pub even : step.before % 16 ≡ 0
  pub order : step.before ≤ step.offset
  pub within : step.before + 16 ≤ size
  pub short : step.before + 16 ≤ 2 ^ 32
