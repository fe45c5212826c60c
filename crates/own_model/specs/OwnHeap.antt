-- A script's heap: a heap with addresses and bytes, and its large blocks.
use Rattle.std.proofs.Common.{refl}
use Rattle.std.specs.Prelude.{◌≡◌, ℕ, ◌+◌, ◌-◌, ◌/◌, ◌&&◌, Bool, true, false, List, [], ◌∷◌, nat_le, nat_lt, max, if◌then◌else◌, slice_index_or, Some}
use Rattle.std.specs.Coded.{Coded, code_by, coded×, coded_ℕ, coded_bool, coded_list}
use Rattle.std.specs.FinMap as map
use Rattle.std.specs.FinMap.{empty, from_entries}
use Rattle.own_model.specs.BestFit.{Spot}
use Rattle.own_model.specs.Growth.{Shape, no_chunks}
use Rattle.own_model.specs.Heap.{Heap, Block, Used, Hole, bytes_in, header}
use Rattle.own_model.specs.NatMap.{NatMap, picked, joined}
use Rattle.own_model.specs.Region.{Region}

-- its blocks; where each chunk starts, in the order of their numbers; the large blocks by their addresses, each by its
-- bytes; and the bytes of each payload, of the used blocks and of the large ones, by the address where it starts
pub record OwnHeap : Type 0 where
  pub shape : Shape
  pub starts : List ℕ
  pub large : NatMap ℕ
  pub payloads : NatMap (List ℕ)

-- a heap of which nothing was asked yet
abbrev pub no_heap : OwnHeap
no_heap = record { shape = no_chunks; starts = []; large = empty; payloads = empty }

-- ---- its addresses

-- where a chunk starts
abbrev pub start_of : OwnHeap → ℕ → ℕ
start_of heap chunk = slice_index_or heap.starts chunk 0

-- where the payload of a block that starts at a hole starts
abbrev pub payload_start : OwnHeap → Spot → ℕ
payload_start heap hole = start_of heap hole.chunk + hole.offset + header

-- the pages of a range of so many bytes: it has at least one
abbrev pub range_pages : ℕ → ℕ
range_pages bytes = max 1 (bytes / 4096)

-- chunks as ranges of pages, each with its start
abbrev pub chunk_ranges : List ℕ → Heap → List (ℕ × Region)
chunk_ranges [] chunks = []
chunk_ranges (start ∷ starts) [] = []
chunk_ranges (start ∷ starts) (blocks ∷ chunks) = (start, record { of = 0; pages = range_pages (bytes_in blocks) }) ∷ chunk_ranges starts chunks

-- large blocks as ranges of pages by their starts
abbrev pub ranges_of_large : NatMap ℕ → NatMap Region
ranges_of_large large = picked (λ bytes. Some (record { of = 0; pages = range_pages bytes })) large

-- the chunks and the large blocks, as ranges of pages by their starts
abbrev pub ranges_of_heap : OwnHeap → NatMap Region
ranges_of_heap heap = joined (from_entries (chunk_ranges heap.starts heap.shape.chunks)) (ranges_of_large heap.large)

-- of chunks that are numbered from a number on, that of the first one that has an address, or the next number
abbrev pub chunk_from : ℕ → List ℕ → Heap → ℕ → ℕ
chunk_from number [] chunks address = number
chunk_from number (start ∷ starts) [] address = number
chunk_from number (start ∷ starts) (blocks ∷ chunks) address =
    if nat_le start address && nat_lt address (start + bytes_in blocks) then number else chunk_from (number + 1) starts chunks address

-- the number of the chunk that has an address, and how far into the chunk it lies
abbrev pub chunk_with : OwnHeap → ℕ → ℕ
chunk_with heap address = chunk_from 0 heap.starts heap.shape.chunks address

abbrev pub offset_of : OwnHeap → ℕ → ℕ
offset_of heap address = address - start_of heap (chunk_with heap address)

-- ---- how it is stored as a model's value

-- a block is stored as whether it is used, and its size
abbrev pub is_used : Block → Bool × ℕ
is_used (Used n) = (true, n)
is_used (Hole n) = (false, n)

abbrev pub block_by : Bool → ℕ → Block
block_by true n = Used n
block_by false n = Hole n

abbrev pub block_back : (b : Block) → block_by (is_used b).0 (is_used b).1 ≡ b
block_back (Used n) = refl
block_back (Hole n) = refl

abbrev pub coded_block : Coded Block
coded_block = code_by (Bool × ℕ) (coded× coded_bool coded_ℕ) is_used (λ p. block_by p.0 p.1) block_back

abbrev pub coded_shape : Coded Shape
coded_shape = code_by (Heap × ℕ) (coded× (coded_list (coded_list coded_block)) coded_ℕ) (λ s. (s.chunks, s.growth)) (λ p. record { chunks = p.0; growth = p.1 }) (λ _. refl)

abbrev pub coded_heap : Coded OwnHeap
coded_heap =
    code_by
    (Shape × (List ℕ × (NatMap ℕ × NatMap (List ℕ))))
    (coded× coded_shape (coded× (coded_list coded_ℕ) (coded× (map.code coded_ℕ coded_ℕ) (map.code coded_ℕ (coded_list coded_ℕ)))))
    (λ h. (h.shape, (h.starts, (h.large, h.payloads))))
    (λ p. record { shape = p.0; starts = p.1.0; large = p.1.1.0; payloads = p.1.1.1 })
    (λ _. refl)
