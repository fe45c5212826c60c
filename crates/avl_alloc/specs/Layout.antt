-- The heap in the words: blocks by their headers, and the tree inside the holes.
use Rattle.std.proofs.Common.{zero, suc}
use Rattle.std.specs.Prelude.{◌≡◌, ℕ, ◌+◌, ◌-◌, ◌/◌, ◌%◌, ◌^◌, ◌≤◌, ◌<◌, ◌==◌, if◌then◌else◌, List, [], ◌∷◌, length, take, slice_index}
use Rattle.std.specs.List.{AllByRecursion}
use Rattle.own_model.specs.Heap.{Block, Used, Hole, bytes_in, IsBlockSize, AreBlocks, Heap}
use Rattle.own_model.specs.BestFit.{holes_of}
use Rattle.avl_alloc.specs.declared.best_fit.BestFit.{BestFit}
use Rattle.avl_tree.specs.Tree.{Tree, tally, IsOrdered}
use Rattle.avl_tree.specs.View.{AreNodes, Stands}
use Rattle.avl_alloc.specs.Words.{Words, place_at, within, IsNode}
use Rattle.avl_alloc.specs.FreeBlocks.{heads, by_key, view_of, hole_plan}

-- ---- blocks

-- the block at a place: its size, then 0 for a hole
abbrev pub block_from : Words → ℕ → Block
block_from words place = if words (place + 8) == 0 then Hole (words place) else Used (words place)

-- the blocks of so many bytes from a place on, by their headers; `most` is how many there are at most
abbrev pub blocks_from : ℕ → Words → ℕ → ℕ → List Block
blocks_from zero words place left = []
blocks_from (suc most) words place left =
    if left == 0 then [] else block_from words place ∷ blocks_from most words (place + words place) (left - words place)

-- a block's header
pub record IsHeader (words : Words) (place n is_used : ℕ) : Type 0 where
  pub sized : IsBlockSize n
  pub size : words place ≡ n
  pub state : words (place + 8) ≡ is_used

-- the headers from a place on are those of these blocks
abbrev pub Laid : Words → ℕ → List Block → Type 0
Laid words place [] = Unit {0}
Laid words place (Used n ∷ rest) = IsHeader words place n 1 × Laid words (place + n) rest
Laid words place (Hole n ∷ rest) = IsHeader words place n 0 × Laid words (place + n) rest

-- so many bytes from a chunk's first place on are words
pub record IsRoom (bytes : ℕ → ℕ) (start size : ℕ) : Type 0 where
  pub some : 2 ^ 32 ≤ start
  pub low : start < 2 ^ 39
  pub first : start % 2 ^ 32 ≡ 0
  pub short : size ≤ 2 ^ 32
  pub within : size ≤ bytes (start / 2 ^ 32 - 1)

-- ---- sums over blocks

-- the sum of one weight over used blocks and another one over holes, by place and size
abbrev pub weigh : (ℕ → ℕ → ℕ) → (ℕ → ℕ → ℕ) → ℕ → List Block → ℕ
weigh used hole place [] = 0
weigh used hole place (Used n ∷ rest) = used place n + weigh used hole (place + n) rest
weigh used hole place (Hole n ∷ rest) = hole place n + weigh used hole (place + n) rest

-- the same over chunks that are numbered from a number on
abbrev pub weigh_all : (ℕ → ℕ → ℕ) → (ℕ → ℕ → ℕ) → ℕ → Heap → ℕ
weigh_all used hole number [] = 0
weigh_all used hole number (blocks ∷ rest) = weigh used hole (place_at number 0) blocks + weigh_all used hole (number + 1) rest

-- no weight
abbrev pub none : ℕ → ℕ → ℕ
none place size = 0

-- the sum of a weight over the holes of a heap
abbrev pub weigh_holes : (ℕ → ℕ → ℕ) → Heap → ℕ
weigh_holes f heap = weigh_all none f 0 heap

-- how many holes a heap has
abbrev pub hole_count : Heap → ℕ
hole_count heap = length (holes_of heap)

-- 1 for a place in the block, else 0
abbrev pub whole : ℕ → ℕ → ℕ → ℕ
whole q place size = within place (place + size) q

-- how many headers of used blocks and how many holes have a place: what the heap keeps for itself
abbrev pub kept_at : ℕ → Heap → ℕ
kept_at q heap = weigh_all (heads q) (whole q) 0 heap

-- ---- the heap

-- the blocks of chunks of these sizes, numbered from a number on
abbrev pub chunks_from : Words → ℕ → List ℕ → Heap
chunks_from words number [] = []
chunks_from words number (size ∷ sizes) = blocks_from size words (place_at number 0) size ∷ chunks_from words (number + 1) sizes

-- the bytes of the chunks, in the order of their numbers
abbrev pub sizes_of : BestFit → List ℕ
sizes_of fit = take fit.count fit.sizes

-- the bytes of each chunk by its number, 0 if there is no such chunk
abbrev pub bytes_of : BestFit → ℕ → ℕ
bytes_of fit chunk = slice_index (sizes_of fit) chunk

-- the heap that is in the words
unfoldable pub heap_of : BestFit → Words → Heap
heap_of fit words = chunks_from words 0 (sizes_of fit)

-- a chunk in the words: headers from its first byte to its last
pub record IsChunk (words : Words) (number size : ℕ) (blocks : List Block) : Type 0 where
  pub laid : Laid words (place_at number 0) blocks
  pub total : bytes_in blocks ≡ size
  pub short : size ≤ 2 ^ 32

-- chunks of these sizes in the words
abbrev pub AreChunks : Words → ℕ → List ℕ → Heap → Type 0
AreChunks words number [] [] = Unit {0}
AreChunks words number [] (blocks ∷ rest) = ⊥
AreChunks words number (size ∷ sizes) [] = ⊥
AreChunks words number (size ∷ sizes) (blocks ∷ rest) = IsChunk words number size blocks × AreChunks words (number + 1) sizes rest

-- a heap and a tree in the words: the nodes are the heap's holes
pub record IsLaidOut (fit : BestFit) (words : Words) (heap : Heap) (t : Tree) : Type 0 where
  pub few : fit.count ≤ 64
  pub sized : length fit.sizes ≡ 64
  pub chunks : AreChunks words 0 (sizes_of fit) heap
  pub stands : Stands hole_plan (view_of words) t fit.root
  pub nodes : AreNodes (IsNode (bytes_of fit)) t
  pub ordered : (up : ℕ) × IsOrdered 0 t up
  pub same : (f : ℕ → ℕ → ℕ) → tally f t ≡ weigh_holes (by_key f) heap

-- what a heap's calls ask of the words, and leave them in: no two holes of a chunk are neighbours, and the tree has all holes
unfoldable pub IsSound : BestFit → Words → Type 0
IsSound fit words = (heap : Heap) × (t : Tree) × IsLaidOut fit words heap t × AllByRecursion AreBlocks heap

-- no word has changed but those of a heap's holes
abbrev pub ChangesHoles : Words → Words → Heap → Type 0
ChangesHoles old new heap = (place : ℕ) → weigh_holes (whole place) heap ≡ 0 → new place ≡ old place
