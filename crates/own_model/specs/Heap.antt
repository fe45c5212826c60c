-- A heap: chunks of blocks. Addresses and payload bytes are no part of it: a script's heap has them in addition.
use Rattle.std.specs.Prelude.{◌≡◌, ℕ, ◌+◌, ◌*◌, ◌%◌, ◌/◌, ◌≤◌, List, [], ◌∷◌}

-- a block of so many bytes, its header among them: used, or a hole
pub data Block : Type 0 where
  Used : ℕ → Block
  Hole : ℕ → Block

-- the bytes of a block
abbrev pub size_of : Block → ℕ
size_of (Used n) = n
size_of (Hole n) = n

-- the bytes of blocks together
abbrev pub bytes_in : List Block → ℕ
bytes_in [] = 0
bytes_in (b ∷ rest) = size_of b + bytes_in rest

-- the bytes of a header; a payload is the rest of its block
abbrev pub header : ℕ
header = 16

-- the least block
abbrev pub least_block : ℕ
least_block = 48

-- a size that a block can have
pub record IsBlockSize (n : ℕ) : Type 0 where
  pub least : least_block ≤ n
  pub even : n % 16 ≡ 0

-- each block has such a size, and no two holes are neighbours
abbrev pub AreBlocks : List Block → Type 0
AreBlocks [] = Unit {0}
AreBlocks (Used n ∷ rest) = IsBlockSize n × AreBlocks rest
AreBlocks (Hole n ∷ []) = IsBlockSize n
AreBlocks (Hole n ∷ Used m ∷ rest) = IsBlockSize n × AreBlocks (Used m ∷ rest)
AreBlocks (Hole n ∷ Hole m ∷ rest) = ⊥

-- so many bytes are whole pages, and at least one
pub record ArePages (bytes : ℕ) : Type 0 where
  pub some : 1 ≤ bytes / 4096
  pub whole : bytes ≡ bytes / 4096 * 4096

-- a chunk's blocks are blocks, and fill whole pages
pub record IsChunk (blocks : List Block) : Type 0 where
  pub sizes : AreBlocks blocks
  pub pages : ArePages (bytes_in blocks)

-- a heap: its chunks in the order of their numbers
abbrev pub Heap : Type 0
Heap = List (List Block)
