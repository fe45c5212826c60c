-- How a heap grows: by the limits of its own account alone.
use Rattle.std.specs.Prelude.{ℕ, ◌*◌, Bool, [], ◌∷◌, ◌++◌, length, nat_le, min, max, if◌then◌else◌, Option, Some, None, is_none}
use Rattle.trade_base.specs.Page.{page_of, is_valid_size}
use Rattle.trade_base.specs.declared.refusal.Refusal.{Refusal}
use Rattle.trade_base.specs.declared.refusal.Refusal.TheVariants.{InvalidSize, TooManyChunks}
use Rattle.own_model.specs.Account.{Account, shortage}
use Rattle.own_model.specs.BestFit.{Spot, best_hole, holes_of, taken_at, given, block_size}
use Rattle.own_model.specs.Heap.{Heap, Hole}

-- a heap without addresses and bytes: its chunks in the order of their numbers, and its growth number
pub record Shape : Type 0 where
  pub chunks : Heap
  pub growth : ℕ

-- a heap before it grows
abbrev pub no_chunks : Shape
no_chunks = record { chunks = []; growth = 4 }

-- the most chunks of a heap
abbrev pub most_chunks : ℕ
most_chunks = 64

-- the most that the growth number can be
abbrev pub most_growth : ℕ
most_growth = 64

-- the least size of a large block, which has pages of its own and takes nothing of a chunk
abbrev pub least_large : ℕ
least_large = 65536

abbrev pub is_large : ℕ → Bool
is_large n = nat_le least_large n

-- the best hole for n bytes
abbrev pub hole_for : ℕ → Shape → Option Spot
hole_for n shape = best_hole (block_size n) (holes_of shape.chunks)

-- ---- taking and giving back

-- a hole taken for n bytes
abbrev pub shape_taken : ℕ → Spot → Shape → Shape
shape_taken n hole shape = record shape { chunks = taken_at (block_size n) (Some hole) shape.chunks }

-- the block at an offset of a chunk given back
abbrev pub shape_given : ℕ → ℕ → Shape → Shape
shape_given chunk offset shape = record shape { chunks = given chunk offset shape.chunks }

-- ---- growth

-- the bytes of a new chunk, and the growth number after it
pub record Growth : Type 0 where
  pub bytes : ℕ
  pub next : ℕ

-- a chunk of no more pages than a block for n bytes needs leaves the growth number
abbrev pub least_growth : ℕ → Shape → Growth
least_growth n shape = record { bytes = page_of (block_size n); next = shape.growth }

-- a chunk of as many pages as the growth number, or more where the block needs more, doubles it
abbrev pub larger_growth : ℕ → Shape → Growth
larger_growth n shape = record { bytes = max (shape.growth * 4096) (page_of (block_size n)); next = min most_growth (2 * shape.growth) }

-- the larger chunk if the account covers it, else the least
abbrev pub growth_of : ℕ → Shape → Account → Growth
growth_of n shape account =
    if is_none (shortage account (larger_growth n shape).bytes 1) then larger_growth n shape else least_growth n shape

-- why a heap without a hole for n bytes isn't given a chunk: it has the most, or the account doesn't cover the least
abbrev pub growth_refusal : ℕ → Shape → Account → Option Refusal
growth_refusal n shape account =
    if nat_le most_chunks (length shape.chunks) then Some TooManyChunks else shortage account (least_growth n shape).bytes 1

-- a chunk more, which is one hole
abbrev pub shape_grown : Growth → Shape → Shape
shape_grown growth shape = record { chunks = shape.chunks ++ (Hole growth.bytes ∷ []) ∷ []; growth = growth.next }

-- the hole that is a new chunk
abbrev pub new_hole : Growth → Shape → Spot
new_hole growth shape = record { size = growth.bytes; chunk = length shape.chunks; offset = 0 }

-- ---- why n bytes are refused

-- with the best hole for them, if there is one
abbrev pub small_refusal : ℕ → Option Spot → Shape → Account → Option Refusal
small_refusal n (Some hole) shape account = None
small_refusal n None shape account = growth_refusal n shape account

abbrev pub heap_refusal : ℕ → Shape → Account → Option Refusal
heap_refusal n shape account =
    if is_valid_size n then (if is_large n then shortage account (page_of n) 1 else small_refusal n (hole_for n shape) shape account)
    else Some InvalidSize
