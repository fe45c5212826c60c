-- What best fit does in the words of chunks.
use Rattle.std.specs.Prelude.{◌≡◌, ℕ, ◌^◌, ◌<◌, ◌≤◌, List, [], ◌∷◌, ◌++◌, Option, IfNone, OnSome}
use Rattle.std.specs.Option.{option_map}
use Rattle.own_model.specs.BestFit.{block_size, best_hole, holes_of, taken, given, used_at, chunk_of}
use Rattle.own_model.specs.Heap.{Hole, IsBlockSize}
use Rattle.avl_alloc.specs.declared.best_fit.BestFit.{BestFit}
use Rattle.avl_alloc.specs.declared.best_fit.BlockAddr.{BlockAddr}
use Rattle.avl_alloc.specs.Found.{block_addr}
use Rattle.avl_alloc.specs.FreeBlocks.{Fits}
use Rattle.avl_alloc.specs.Layout.{heap_of, sizes_of, bytes_of, IsSound, ChangesHoles}
use Rattle.avl_alloc.specs.Words.{Words}
use Rattle.dataspace_core.specs.Store.{Store}
use Rattle.heap_core.specs.Words.{around, bytes_around, words_of}

-- what a call asks: the blocks are in the words, and the chunks have these bytes
pub record StandIn (fit : BestFit) (words : Words) (bytes : ℕ → ℕ) : Type 0 where
  pub sound : IsSound fit words
  pub fits : Fits (bytes_of fit) bytes

-- the same of chunks in these dataspaces of a memory
abbrev pub StandAt : BestFit → List ℕ → Store → Type 0
StandAt fit keys store = StandIn fit (words_of keys store) (bytes_around (around keys store))

-- what lies around the words of these chunks is as it was
abbrev pub KeepsAround : List ℕ → Store → Store → Type 0
KeepsAround keys old new = around keys new ≡ around keys old

-- so many bytes can be a chunk's: they're a block's, and have offsets in 32 bits
pub record IsChunkSize (bytes : ℕ) : Type 0 where
  pub block : IsBlockSize bytes
  pub short : bytes ≤ 2 ^ 32

-- a blank is the ledger's, which has some parts
pub record IsBlankOf (name parts ledger ledger_parts : ℕ) : Type 0 where
  pub same_name : name ≡ ledger
  pub same_parts : parts ≡ ledger_parts
  pub some : 0 < parts

-- the best hole is taken for n bytes, if there is one
pub record Takes (n : ℕ) (result : Option BlockAddr) (old new : BestFit) (words after : Words) : Type 0 where
  pub best : result ≡ option_map block_addr (best_hole (block_size n) (holes_of (heap_of old words)))
  pub heap : heap_of new after ≡ taken n (heap_of old words)
  pub sound : IsSound new after
  pub sizes : sizes_of new ≡ sizes_of old
  pub others : ChangesHoles words after (heap_of old words)
  pub refused : IfNone result (after ≡ words)
  pub unchanged : IfNone result (new ≡ old)

-- a chunk of so many bytes comes, which is one hole
pub record Adds (bytes : ℕ) (old new : BestFit) (words after : Words) : Type 0 where
  pub heap : heap_of new after ≡ heap_of old words ++ (Hole bytes ∷ []) ∷ []
  pub sound : IsSound new after
  pub sizes : sizes_of new ≡ sizes_of old ++ bytes ∷ []
  pub others : ChangesHoles words after (heap_of new after)

-- the used block at an address is given back, if there is one
pub record Gives (addr : BlockAddr) (result : Option ℕ) (old new : BestFit) (words after : Words) : Type 0 where
  pub block : result ≡ used_at addr.offset (chunk_of (heap_of old words) addr.chunk)
  pub heap : OnSome result (heap_of new after ≡ given addr.chunk addr.offset (heap_of old words))
  pub sound : IsSound new after
  pub sizes : sizes_of new ≡ sizes_of old
  pub others : ChangesHoles words after (heap_of new after)
  pub refused : IfNone result (after ≡ words)
  pub unchanged : IfNone result (new ≡ old)
