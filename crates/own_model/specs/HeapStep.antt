-- What taking, growing and giving back do to a script's heap.
use Rattle.std.specs.Prelude.{ℕ, ◌-◌, List, [], ◌∷◌, ◌++◌, nat_lt, if◌then◌else◌, Option}
use Rattle.std.specs.Option.{option_map, option_or}
use Rattle.std.specs.FinMap.{get, insert, remove}
use Rattle.trade_base.specs.Page.{page_of}
use Rattle.own_model.specs.BestFit.{Spot, block_size, chunk_of, used_at}
use Rattle.own_model.specs.Growth.{Growth, shape_taken, shape_given, shape_grown}
use Rattle.own_model.specs.Heap.{header, least_block}
use Rattle.own_model.specs.OwnHeap.{OwnHeap, payload_start, chunk_with, offset_of}
use Rattle.own_model.specs.OwnState.{zeros, with_part}

-- how much of a hole of n bytes a block of so many takes: all of it, where what is left is less than a block's least size
abbrev pub size_taken : ℕ → ℕ → ℕ
size_taken size n = if nat_lt (n - size) least_block then n else size

-- a block for n bytes in a hole, its payload all zero
abbrev pub with_block : ℕ → Spot → OwnHeap → OwnHeap
with_block n hole heap = record heap {
  shape = shape_taken n hole heap.shape;
  payloads = insert heap.payloads (payload_start heap hole) (zeros (size_taken (block_size n) hole.size - header));
}

-- the used block whose payload starts at an address given back
abbrev pub without_block : ℕ → OwnHeap → OwnHeap
without_block address heap = record heap {
  shape = shape_given (chunk_with heap (address - header)) (offset_of heap (address - header)) heap.shape;
  payloads = remove heap.payloads address;
}

-- a chunk more at an address
abbrev pub with_chunk : Growth → ℕ → OwnHeap → OwnHeap
with_chunk growth start heap = record heap { shape = shape_grown growth heap.shape; starts = heap.starts ++ start ∷ [] }

-- a large block of n bytes in whole pages more at an address, all zero
abbrev pub with_large : ℕ → ℕ → OwnHeap → OwnHeap
with_large n start heap = record heap { large = insert heap.large start (page_of n); payloads = insert heap.payloads start (zeros (page_of n)) }

-- the large block at an address removed
abbrev pub without_large : ℕ → OwnHeap → OwnHeap
without_large address heap = record heap { large = remove heap.large address; payloads = remove heap.payloads address }

-- the payload at an address with other bytes from an offset on
abbrev pub with_poked : ℕ → List ℕ → ℕ → List ℕ → OwnHeap → OwnHeap
with_poked address payload offset part heap = record heap { payloads = insert heap.payloads address (with_part payload offset part) }

-- the bytes of the payload that starts at an address, by the blocks: a large block's, or those of a used block after its header
abbrev pub payload_size : OwnHeap → ℕ → Option ℕ
payload_size heap address =
    option_or (get heap.large address)
    (option_map (λ size. size - header)
    (used_at (offset_of heap (address - header)) (chunk_of heap.shape.chunks (chunk_with heap (address - header)))))
