-- Nodes: what the files and the objects of a session have in common. Each has a name, and a block of its own in the session's heap.
use Rattle.std.specs.Prelude.{◌≡◌, ℕ, ◌+◌, ◌≤◌, ◌==◌, ◌&&◌, Bool, true, List, [], ◌∷◌, length, sum_by, find, if◌then◌else◌, Option, Some, None, IsSome}
use Rattle.std.specs.List.{AllByRecursion}
use Rattle.std.specs.Str.{bytes_eq}
use Rattle.own_model.specs.Account.{Account, charged}
use Rattle.own_model.specs.BestFit.{Spot, block_size, chunk_of, used_at}
use Rattle.own_model.specs.Growth.{Shape, most_chunks, most_growth, growth_of, new_hole, shape_taken, shape_grown}
use Rattle.own_model.specs.Heap.{bytes_in, IsChunk}
use Rattle.own_model.specs.Sliced.{sliced_size}
use Rattle.own_model.specs.Text.{is_name}

-- a node: the name, the bytes for which its block was asked, and where the block starts in the heap
pub record Node : Type 0 where
  pub name : List ℕ
  pub asked : ℕ
  pub chunk : ℕ
  pub offset : ℕ

-- ---- the first of a list that passes a test

-- changed
abbrev pub with_first : {X : Type 0} → (X → Bool) → (X → X) → List X → List X
with_first test change [] = []
with_first test change (x ∷ rest) = if test x then change x ∷ rest else x ∷ with_first test change rest

-- removed
abbrev pub without_first : {X : Type 0} → (X → Bool) → List X → List X
without_first test [] = []
without_first test (x ∷ rest) = if test x then rest else x ∷ without_first test rest

-- ---- a block taken

-- where a block is, and the heap and the account with it
pub record BlockTaken : Type 0 where
  pub spot : Spot
  pub shape : Shape
  pub account : Account

-- a block for n bytes in the best hole, if there is one: the heap grows if there is none
abbrev pub block_taken : ℕ → Option Spot → Shape → Account → BlockTaken
block_taken n (Some hole) shape account = record { spot = hole; shape = shape_taken n hole shape; account = account }
block_taken n None shape account =
    let growth = growth_of n shape account in
    record {
      spot = new_hole growth shape;
      shape = shape_taken n (new_hole growth shape) (shape_grown growth shape);
      account = charged account growth.bytes 1;
    }

-- ---- what is true of nodes between requests

-- the heap has a used block for a node where the node says
pub record HasBlock (shape : Shape) (node : Node) : Type 0 where
  pub size : ℕ
  pub there : used_at node.offset (chunk_of shape.chunks node.chunk) ≡ Some size
  pub fits : block_size node.asked ≤ size

abbrev pub has_name : List ℕ → Node → Bool
has_name name node = bytes_eq node.name name

-- a node's block is at a place
abbrev pub is_at : ℕ → ℕ → Node → Bool
is_at chunk offset node = node.chunk == chunk && node.offset == offset

-- no node is like a later one
abbrev pub AreUnlike : (Node → Node → Bool) → List Node → Type 0
AreUnlike like [] = Unit {0}
AreUnlike like (node ∷ rest) = (find (like node) rest ≡ None) × AreUnlike like rest

abbrev pub NamesDiffer : List Node → Type 0
NamesDiffer nodes = AreUnlike (λ node. has_name node.name) nodes

abbrev pub PlacesDiffer : List Node → Type 0
PlacesDiffer nodes = AreUnlike (λ node. is_at node.chunk node.offset) nodes

-- a heap of nodes: each chunk is one, they are no more than the most, and the growth number is within its bounds
pub record IsShape (shape : Shape) : Type 0 where
  pub chunks : AllByRecursion IsChunk shape.chunks
  pub few : length shape.chunks ≤ most_chunks
  pub growth_some : 1 ≤ shape.growth
  pub growth_most : shape.growth ≤ most_growth

-- names are names, each of one node; and each node has a block of its own, of which there are no more
pub record AreNodesOf (shape : Shape) (nodes : List Node) : Type 0 where
  pub names : AllByRecursion (λ node. is_name node.name ≡ true) nodes
  pub differ : NamesDiffer nodes
  pub heap : IsShape shape
  pub blocks : AllByRecursion (HasBlock shape) nodes
  pub apart : PlacesDiffer nodes
  pub no_more : (chunk offset : ℕ) → IsSome (used_at offset (chunk_of shape.chunks chunk)) → IsSome (find (is_at chunk offset) nodes)

-- ---- what is charged

-- a content of so many bytes is one sliced block of just these, and an empty content is none
abbrev pub content_ram : ℕ → ℕ
content_ram size = if size == 0 then 0 else sliced_size size

abbrev pub content_caps : ℕ → ℕ
content_caps size = if size == 0 then 0 else 1

-- for all that have contents of such sizes, and nodes in a heap: the bytes of its chunks and of the contents
abbrev pub kept_ram : {X : Type 0} → (X → ℕ) → List X → Shape → ℕ
kept_ram size xs shape = sum_by bytes_in shape.chunks + sum_by (λ x. content_ram (size x)) xs

-- a capability for each of them
abbrev pub kept_caps : {X : Type 0} → (X → ℕ) → List X → Shape → ℕ
kept_caps size xs shape = length shape.chunks + sum_by (λ x. content_caps (size x)) xs
