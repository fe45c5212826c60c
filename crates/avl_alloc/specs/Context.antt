-- A part of a heap, by its context: what is around it.
use Rattle.std.specs.Prelude.{◌≡◌, ℕ, ◌+◌, ◌*◌, ◌^◌, ◌<◌, ◌≤◌, ◌==◌, if◌then◌else◌, List, [], ◌∷◌, ◌++◌, length}
use Rattle.own_model.specs.Heap.{Block, Used, Hole, bytes_in, Heap}
use Rattle.avl_alloc.specs.declared.best_fit.BestFit.{BestFit}
use Rattle.avl_alloc.specs.Words.{Words, place_at, within}
use Rattle.avl_tree.specs.Tree.{Tree}
use Rattle.avl_alloc.specs.Layout.{weigh, weigh_all, none, whole, sizes_of, hole_count, IsLaidOut}

-- the chunks before, the blocks before in the same chunk, the blocks after, the chunks after
pub record Context : Type 0 where
  pub older : Heap
  pub left : List Block
  pub right : List Block
  pub newer : Heap

-- the heap that has these blocks there
abbrev pub heap_with : Context → List Block → Heap
heap_with at blocks = at.older ++ (at.left ++ (blocks ++ at.right)) ∷ at.newer

-- the place of the first of them
abbrev pub start_of : Context → ℕ
start_of at = place_at (length at.older) (bytes_in at.left)

-- the sum of a weight over used blocks and another one over holes, around a part of so many bytes
abbrev pub around : (ℕ → ℕ → ℕ) → (ℕ → ℕ → ℕ) → Context → ℕ → ℕ
around used hole at bytes =
    weigh_all used hole 0 at.older
    + weigh used hole (place_at (length at.older) 0) at.left
    + weigh used hole (start_of at + bytes) at.right
    + weigh_all used hole (length at.older + 1) at.newer

-- blocks are at a place of the heap in the words, and the tree has all holes
pub record Stand (fit : BestFit) (words : Words) (at : Context) (place : ℕ) (blocks : List Block) : Type 0 where
  pub start : start_of at ≡ place
  pub tree : Tree
  pub laid : IsLaidOut fit words (heap_with at blocks) tree

-- blocks there have become others of as many bytes, and no word has changed but theirs and those of holes around them
pub record Turn (old new : BestFit) (w v : Words) (at : Context) (place : ℕ) (from to : List Block) : Type 0 where
  pub bytes : bytes_in to ≡ bytes_in from
  pub stand : Stand new v at place to
  pub sizes : sizes_of new ≡ sizes_of old
  pub kept : (q : ℕ) → within place (place + bytes_in from) q + around none (whole q) at (bytes_in from) ≡ 0 → v q ≡ w q

-- such blocks are at a place, somewhere in the heap
abbrev pub StandSomewhere : BestFit → Words → ℕ → List Block → Type 0
StandSomewhere fit words place blocks = (at : Context) × Stand fit words at place blocks

-- blocks that are at a place become others, wherever that is in the heap
abbrev pub Turns : BestFit → BestFit → Words → Words → ℕ → List Block → List Block → Type 0
Turns old new w v place from to = (at : Context) → Stand old w at place from → Turn old new w v at place from to

-- that takes so many loads for each binary digit of the number of holes, and so many more
abbrev pub LoadsFew : BestFit → Words → ℕ → List Block → ℕ → ℕ → ℕ → ℕ → Type 0
LoadsFew fit words place blocks each more before after =
    (at : Context) (b : ℕ) → Stand fit words at place blocks → hole_count (heap_with at blocks) < 2 ^ b → after ≤ before + each * b + more

-- all are used
abbrev pub AreUsed : List Block → Type 0
AreUsed [] = Unit {0}
AreUsed (Used n ∷ rest) = AreUsed rest
AreUsed (Hole n ∷ rest) = ⊥

-- used blocks are there, of so many bytes together
pub record StandUsed (fit : BestFit) (words : Words) (at : Context) (place : ℕ) (blocks : List Block) (bytes : ℕ) : Type 0 where
  pub stand : Stand fit words at place blocks
  pub used : AreUsed blocks
  pub total : bytes_in blocks ≡ bytes
  pub some : 0 < bytes

-- a hole of so many bytes, nothing if they are 0
abbrev pub gap : ℕ → List Block
gap bytes = if bytes == 0 then [] else Hole bytes ∷ []

-- the same used
abbrev pub filled : ℕ → List Block
filled bytes = if bytes == 0 then [] else Used bytes ∷ []

-- the size of the hole that comes first among blocks, 0 if none does
abbrev pub first_hole : List Block → ℕ
first_hole [] = 0
first_hole (Used n ∷ rest) = 0
first_hole (Hole n ∷ rest) = n
