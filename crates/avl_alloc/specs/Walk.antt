-- What a walk along a chunk's headers finds.
use Rattle.std.specs.Prelude.{◌≡◌, ℕ, ◌+◌, ◌-◌, ◌%◌, ◌<◌, ◌≤◌, ◌==◌, true, false, nat_lt, if◌then◌else◌, List, [], ◌∷◌, Option, Some, None}
use Rattle.own_model.specs.Heap as heap
use Rattle.own_model.specs.Heap.{Used, Hole, size_of, bytes_in}
use Rattle.avl_alloc.specs.declared.chunk.Block.{Block}
use Rattle.avl_alloc.specs.declared.chunk.Step.{Step}
use Rattle.avl_alloc.specs.Words.{Words}
use Rattle.avl_alloc.specs.Layout.{Laid}

-- the block that has an offset, among blocks from an offset on, after a hole of the size `before`, or after none if that is 0
abbrev pub block_over : ℕ → ℕ → ℕ → List heap.Block → Block
block_over from before target [] = record { offset = from; size = 0; used = false; before = before }
block_over from before target (Used n ∷ rest) =
    if nat_lt target (from + n) then record { offset = from; size = n; used = true; before = before } else block_over (from + n) 0 target rest
block_over from before target (Hole n ∷ rest) =
    if nat_lt target (from + n) then record { offset = from; size = n; used = false; before = before } else block_over (from + n) n target rest

-- the same, and nothing where the blocks are too short
abbrev pub block_there : ℕ → List heap.Block → Option Block
block_there target blocks = if nat_lt target (bytes_in blocks) then Some (block_over 0 0 target blocks) else None

-- the number of blocks before the one that has an offset, among blocks from an offset on
abbrev pub blocks_before : ℕ → ℕ → List heap.Block → ℕ
blocks_before from target [] = 0
blocks_before from target (b ∷ rest) = if nat_lt target (from + size_of b) then 0 else 1 + blocks_before (from + size_of b) target rest

-- the words that a walk loads to reach the block that has an offset: each size on the way, its state, and that of the block before it
abbrev pub walk_loads : ℕ → List heap.Block → ℕ
walk_loads target blocks = let passed = blocks_before 0 target blocks in passed + (if passed == 0 then 2 else 3)

-- a walk that has passed so many blocks, counted from k on, has these blocks ahead of it, from an offset on
pub record IsAhead (w : Words) (start from before target : ℕ) (blocks ahead : List heap.Block) (n k : ℕ) : Type 0 where
  pub laid : Laid w (start + from) ahead
  pub total : from + bytes_in ahead ≡ bytes_in blocks
  pub even : from % 16 ≡ 0
  pub reached : from ≤ target
  pub same : block_over from before target ahead ≡ block_over 0 0 target blocks
  pub counted : n + blocks_before from target ahead ≡ k + blocks_before 0 target blocks

-- the size of a block in this state between two offsets if it is free, else 0
abbrev pub hole_in : ℕ → ℕ → ℕ → ℕ
hole_in state from to = if state == 1 then 0 else to - from

-- 1 if a block is before that of a step, else 0
abbrev pub behind : Step → ℕ
behind step = if step.before == step.offset then 0 else 1

-- a walk to an offset has reached this step, where it has loaded so many words and began with so many
pub record IsWalking (w : Words) (start target : ℕ) (blocks : List heap.Block) (step : Step) (n k : ℕ) : Type 0 where
  pub inside : target < bytes_in blocks
  pub ahead : List heap.Block
  pub is : IsAhead w start step.offset (hole_in (w (start + step.before + 8)) step.before step.offset) target blocks ahead n (k + 1)
  pub next : step.next ≡ step.offset + w (start + step.offset)
  pub even : step.before % 16 ≡ 0
  pub order : step.before ≤ step.offset
  pub begun : k < n
  pub passed : behind step ≡ (if n == k + 1 then 0 else 1)
