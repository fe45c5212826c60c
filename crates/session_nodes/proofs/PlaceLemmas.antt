-- Where the blocks of nodes stand: in which chunk, and how far into it. A block stands there while others come and go.
use Rattle.std.proofs.lemmas.Bool.Decides.{nat_tests}
use Rattle.std.proofs.Common.{rules, ◌≡◌, ℕ, ◌+◌, ◌-◌, ◌<◌, ◌≤◌, [], ◌∷◌, ◌++◌, length, get_or, Some, sym, ap, subst, ◌∙◌, arith}
use Rattle.std.proofs.lemmas.List.{length-map, get_or_append_left, length-append, length-set, get_or-set_same}
use Rattle.std.proofs.Math.Seq.{get_or-append_seam}
use Rattle.std.specs.List.{AllByRecursion}
use Rattle.own_model.specs.BestFit.{Spot, block_size, chunk_of}
use Rattle.own_model.specs.Growth.{Growth, hole_for, new_hole}
use Rattle.own_model.specs.Heap.{Hole, AreBlocks, bytes_in}
use Rattle.own_model.specs.HeapStep.{with_block, with_chunk, without_block}
use Rattle.own_model.specs.OwnHeap.{OwnHeap, start_of, chunk_with, offset_of, payload_start}
use Rattle.own_model.proofs.HeapBestFitLemmas.{best_is_hole}
use Rattle.own_model.proofs.HeapBlockLemmas.{bytes-taken, bytes-given, hole_within, block_size-fits}
use Rattle.own_model.proofs.ListLemmas.{all_at}
use Rattle.own_model.proofs.HeapChunkLemmas.{Lies, chunk_from_is, chunk_from-set, chunk_from-append}
use Rattle.avl_alloc.proofs.LayoutLemmas.{sound_told}
use Rattle.region_map.specs.Regions.{Regions}
use Rattle.dataspace_core.specs.Store.{Store}
use Rattle.heap_core.specs.declared.heap.Heap.{Heap}
use Rattle.heap_core.specs.declared.words.Chunk.{Chunk}
use Rattle.heap_core.specs.Heap.{IsSound, heap_in, payer_of, share_at, starts_in, words_in}
use Rattle.heap_core.proofs.FoundLemmas.{one_chunk}
use Rattle.heap_core.proofs.StandLemmas.{blocks, chunk_total, count_blocks}
use Rattle.server_frame.specs.Session.{holding}
use Rattle.sliced_heap.specs.declared.heap.SlicedHeap.{SlicedHeap}
use Rattle.session_nodes.specs.SoundHeaps.{HasSoundHeaps, stock}
use Rattle.heap_core.proofs.GiveLemmas.{start_is}

-- chunks are made of blocks, and each address in one is that chunk's
pub record HasPlaces (nodes : OwnHeap) : Type 0 where
  pub starts : length nodes.starts ≡ length nodes.shape.chunks
  pub blocks : AllByRecursion AreBlocks nodes.shape.chunks
  pub place : (c offset : ℕ) → c < length nodes.shape.chunks → offset < bytes_in (chunk_of nodes.shape.chunks c) → chunk_with nodes (start_of nodes c + offset) ≡ c

-- so it is of a sound heap
module _ (heap : Heap) (store : Store) (regions : Regions) (sound : IsSound heap store regions) where
  count : length (starts_in heap) ≡ length (blocks heap (share_at (payer_of heap) store regions) sound.laid)
  count = length-map heap.chunks.items (λ (x : Chunk). x.start) ∙ sym (count_blocks heap (share_at (payer_of heap) store regions) sound.laid)

  lies_chunk : (c k address : ℕ) → c < length heap.chunks.items → k < length heap.chunks.items →
      Lies (starts_in heap) (blocks heap (share_at (payer_of heap) store regions) sound.laid) c address →
      Lies (starts_in heap) (blocks heap (share_at (payer_of heap) store regions) sound.laid) k address → k ≡ c
  lies_chunk c k address in_c in_k here there = grind (arith, nat_tests, chunk_total, start_is, one_chunk)

  pub heap_has_places : HasPlaces (heap_in heap (holding (share_at (payer_of heap) store regions)))
  unfolding heap_in
  heap_has_places =
      let chunks = blocks heap (share_at (payer_of heap) store regions) sound.laid in
      let many = count_blocks heap (share_at (payer_of heap) store regions) sound.laid in
      record {
        starts = count;
        blocks = (sound_told heap.fit (words_in heap (share_at (payer_of heap) store regions).part) sound.laid.fit).blocks;
        place = λ c offset within inside.
            let here : Lies (starts_in heap) chunks c (get_or (starts_in heap) c 0 + offset) = record { low = omega arith; high = omega (arith, inside) } in
            let e = chunk_from_is 0 (starts_in heap) chunks c (get_or (starts_in heap) c 0 + offset) count within here
            (λ j less there. let s = lies_chunk c j (get_or (starts_in heap) c 0 + offset) (omega (arith, within, many)) (omega (arith, less, within, many)) here there in omega (arith, s, less)) in
            omega (arith, e);
      }

-- ---- blocks that stand

module _ (nodes : OwnHeap) (n : ℕ) (hole : Spot) where
  -- a hole is taken
  pub chunk_taken : (address : ℕ) → chunk_with (with_block n hole nodes) address ≡ chunk_with nodes address
  chunk_taken address = chunk_from-set 0 nodes.starts nodes.shape.chunks hole.chunk _ address (bytes-taken (block_size n) hole.offset (chunk_of nodes.shape.chunks hole.chunk))

  pub offset_taken : (address : ℕ) → offset_of (with_block n hole nodes) address ≡ offset_of nodes address
  offset_taken address = ap (λ c. address - start_of nodes c) (chunk_taken address)

  pub count_taken : length (with_block n hole nodes).shape.chunks ≡ length nodes.shape.chunks
  count_taken = length-set nodes.shape.chunks hole.chunk _

module _ (nodes : OwnHeap) (block : ℕ) where
  -- a block is given back
  pub chunk_given : (address : ℕ) → chunk_with (without_block block nodes) address ≡ chunk_with nodes address
  chunk_given address = simp (chunk_from-set, bytes-given)

  pub offset_given : (address : ℕ) → offset_of (without_block block nodes) address ≡ offset_of nodes address
  offset_given address = ap (λ c. address - start_of nodes c) (chunk_given address)

  pub count_given : length (without_block block nodes).shape.chunks ≡ length nodes.shape.chunks
  count_given = length-set nodes.shape.chunks (chunk_with nodes (block - 16)) _

module _ (nodes : OwnHeap) (growth : Growth) (start : ℕ) (has : HasPlaces nodes) (address : ℕ) (within : chunk_with nodes address < length nodes.shape.chunks) where
  -- the heap grows
  pub chunk_grown : chunk_with (with_chunk growth start nodes) address ≡ chunk_with nodes address
  chunk_grown = omega (arith, chunk_from-append 0 nodes.starts nodes.shape.chunks address start (Hole growth.bytes ∷ []) has.starts (chunk_with nodes address) within (omega arith))

  pub offset_grown : offset_of (with_chunk growth start nodes) address ≡ offset_of nodes address
  offset_grown = search (rules, chunk_grown, get_or_append_left)

-- ---- a new block

-- in the best hole
pub placed_in_hole : (nodes : OwnHeap) (n address : ℕ) (hole : Spot) → HasPlaces nodes → hole_for n nodes.shape ≡ Some hole → address ≡ payload_start nodes hole →
    (hole.chunk < length nodes.shape.chunks) × ((chunk_with nodes (address - 16) ≡ hole.chunk) × (offset_of nodes (address - 16) ≡ hole.offset))
placed_in_hole nodes n address hole has best at =
    let is = (best_is_hole (block_size n) nodes.shape.chunks hole has.blocks best).0 in
    let inside = hole_within hole.offset hole.size (chunk_of nodes.shape.chunks hole.chunk) (all_at AreBlocks nodes.shape.chunks hole.chunk [] has.blocks tt) is.there in
    let back : address - 16 ≡ start_of nodes hole.chunk + hole.offset = omega (arith, at) in
    let here = has.place hole.chunk hole.offset is.within (omega (arith, inside.1, inside.0.least)) in
    let chunk : chunk_with nodes (address - 16) ≡ hole.chunk = ap (chunk_with nodes) back ∙ here in
    (is.within, (chunk, ap (λ c. address - 16 - start_of nodes c) chunk ∙ omega (arith, back)))

-- in a new chunk
module _ (nodes : OwnHeap) (n address start : ℕ) (growth : Growth) (has : HasPlaces nodes) (fits : block_size n ≤ growth.bytes) (at : address ≡ start + 16) where
  abbrev pub grown : OwnHeap
  grown = with_block n (new_hole growth nodes.shape) (with_chunk growth start nodes)

  module _ (later : HasPlaces grown) where
    starts_there : start_of grown (length nodes.shape.chunks) ≡ start
    starts_there = ap (λ k. get_or (nodes.starts ++ start ∷ []) k 0) (sym has.starts) ∙ get_or-append_seam nodes.starts start [] 0

    bytes_there : bytes_in (chunk_of grown.shape.chunks (length nodes.shape.chunks)) ≡ growth.bytes + 0
    bytes_there = grind (arith, nat_tests, length-append, get_or-set_same, bytes-taken, get_or-append_seam)

    pub placed_in_chunk : (length nodes.shape.chunks < length grown.shape.chunks) × ((chunk_with grown (address - 16) ≡ length nodes.shape.chunks) × (offset_of grown (address - 16) ≡ 0))
    placed_in_chunk = grind (arith, nat_tests, count_taken, length-append, starts_there, bytes_there, block_size-fits)

-- and its payload starts behind a header there
pub starts_at : (nodes : OwnHeap) (growth : Growth) (start : ℕ) → HasPlaces nodes → payload_start (with_chunk growth start nodes) (new_hole growth nodes.shape) ≡ start + 16
starts_at nodes growth start has = grind (arith, nat_tests, get_or-append_seam)

-- the heap of a session that is furnished has places
pub furnished_has_places : (heap : Heap) (sliced : SlicedHeap) (store : Store) (regions : Regions) → HasSoundHeaps heap sliced store regions → HasPlaces (stock heap sliced store regions).nodes
furnished_has_places heap sliced store regions furnished =
    subst (λ k. HasPlaces (heap_in heap (holding (share_at k store regions)))) furnished.payer (heap_has_places heap store regions furnished.sound)
