-- Best fit: which hole a request takes, what taking it and giving a block back leave.
use Rattle.std.proofs.Common.{zero, suc}
use Rattle.std.specs.Prelude.{ℕ, ◌+◌, ◌-◌, ◌*◌, ◌/◌, ◌==◌, ◌&&◌, ◌||◌, Bool, nat_lt, nat_le, max, if◌then◌else◌, List, [], ◌∷◌, ◌++◌, Option, Some, None, slice_index_or, slice_set}
use Rattle.own_model.specs.Heap.{Block, Used, Hole, size_of, header, least_block, Heap}

-- a hole: its size, the number of its chunk, its offset there
pub record Spot : Type 0 where
  pub size : ℕ
  pub chunk : ℕ
  pub offset : ℕ

-- the holes among the blocks from an offset of a chunk on
abbrev pub holes_in : ℕ → ℕ → List Block → List Spot
holes_in chunk offset [] = []
holes_in chunk offset (Used n ∷ rest) = holes_in chunk (offset + n) rest
holes_in chunk offset (Hole n ∷ rest) = record { size = n; chunk = chunk; offset = offset } ∷ holes_in chunk (offset + n) rest

-- the holes of chunks that are numbered from a number on
abbrev pub holes_from : ℕ → Heap → List Spot
holes_from number [] = []
holes_from number (blocks ∷ rest) = holes_in number 0 blocks ++ holes_from (number + 1) rest

-- the holes of a heap
abbrev pub holes_of : Heap → List Spot
holes_of heap = holes_from 0 heap

-- a hole comes before another one: by size, then by chunk, then by offset
abbrev pub comes_before : Spot → Spot → Bool
comes_before x y =
    nat_lt x.size y.size || (x.size == y.size && (nat_lt x.chunk y.chunk || (x.chunk == y.chunk && nat_lt x.offset y.offset)))

-- of two holes the one that comes first
abbrev pub earlier : Spot → Option Spot → Spot
earlier x None = x
earlier x (Some y) = if comes_before y x then y else x

-- the first hole of at least so many bytes
abbrev pub best_hole : ℕ → List Spot → Option Spot
best_hole size [] = None
best_hole size (x ∷ rest) = if nat_le size x.size then Some (earlier x (best_hole size rest)) else best_hole size rest

-- the bytes of a block for a payload of n bytes: its header with them, in whole steps of 16
abbrev pub block_size : ℕ → ℕ
block_size n = max least_block (header + (n + 15) / 16 * 16)

-- a hole cut: a block of so many bytes and a hole of what is left, if that is a block's least size; else all of it
abbrev pub cut : ℕ → ℕ → List Block
cut size n = if nat_lt (n - size) least_block then Used n ∷ [] else Used size ∷ Hole (n - size) ∷ []

-- the hole at an offset taken for a block of so many bytes
abbrev pub taken_in : ℕ → ℕ → List Block → List Block
taken_in size offset [] = []
taken_in size offset (b ∷ rest) = if offset == 0 then cut size (size_of b) ++ rest else b ∷ taken_in size (offset - size_of b) rest

-- the blocks of a chunk
abbrev pub chunk_of : Heap → ℕ → List Block
chunk_of heap chunk = slice_index_or heap chunk []

-- the best hole taken for n bytes; the heap as it is if no hole is large enough
abbrev pub taken_at : ℕ → Option Spot → Heap → Heap
taken_at size None heap = heap
taken_at size (Some hole) heap = slice_set heap hole.chunk (taken_in size hole.offset (chunk_of heap hole.chunk))

abbrev pub taken : ℕ → Heap → Heap
taken n heap = taken_at (block_size n) (best_hole (block_size n) (holes_of heap)) heap

-- a hole before blocks, joined with a hole that comes first among them
abbrev pub before : ℕ → List Block → List Block
before n (Hole m ∷ rest) = Hole (n + m) ∷ rest
before n rest = Hole n ∷ rest

-- the block at an offset given back: a hole, joined with a hole directly before it and one directly after it
abbrev pub given_in : ℕ → List Block → List Block
given_in offset [] = []
given_in offset (Used n ∷ rest) = if offset == 0 then before n rest else Used n ∷ given_in (offset - n) rest
given_in offset (Hole n ∷ rest) = if offset == n then before n (given_in 0 rest) else Hole n ∷ given_in (offset - n) rest

-- the size of the used block that starts at an offset
abbrev pub used_at : ℕ → List Block → Option ℕ
used_at offset [] = None
used_at offset (Used n ∷ rest) = if offset == 0 then Some n else (if nat_lt offset n then None else used_at (offset - n) rest)
used_at offset (Hole n ∷ rest) = if nat_lt offset n then None else used_at (offset - n) rest

-- the used block whose payload has an offset, as far from the first of these blocks as `from` says: its offset and its size
abbrev pub payload_at : ℕ → ℕ → List Block → Option (ℕ × ℕ)
payload_at from offset [] = None
payload_at from offset (Used n ∷ rest) =
    if nat_lt offset n then (if nat_lt offset header then None else Some (from, n)) else payload_at (from + n) (offset - n) rest
payload_at from offset (Hole n ∷ rest) = if nat_lt offset n then None else payload_at (from + n) (offset - n) rest

-- a block given back
abbrev pub given : ℕ → ℕ → Heap → Heap
given chunk offset heap = slice_set heap chunk (given_in offset (chunk_of heap chunk))

-- how many binary digits a number has, 0 for 0
abbrev pub digits_up_to : ℕ → ℕ → ℕ
digits_up_to zero n = 0
digits_up_to (suc most) n = if n == 0 then 0 else 1 + digits_up_to most (n / 2)

unfoldable pub binary_digits : ℕ → ℕ
binary_digits n = digits_up_to n n
