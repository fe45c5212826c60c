-- Where the blocks of nodes stand: an address tells its chunk and how far into it the block stands.
use Rattle.std.proofs.Common.{◌≡◌, ℕ, ◌+◌, ◌-◌, ◌*◌, ◌<◌, ◌≤◌, List, [], length, Some, refl, sym, ap, ◌∙◌, ⊎_elim, arith}
use Rattle.std.proofs.lemmas.Bool.{cases_lt}
use Rattle.std.proofs.lemmas.List.{get_or_past, get_or-map}
use Rattle.std.proofs.lemmas.Option.{none-some, same_Some}
use Rattle.std.specs.FinMap.{get, empty}
use Rattle.own_model.specs.NatMap.{NatMap}
use Rattle.own_model.specs.Region.{Region}
use Rattle.own_model.proofs.NatMapLemmas.{get-empty, get-picked_at}
use Rattle.own_model.specs.BestFit.{chunk_of, used_at}
use Rattle.own_model.specs.Growth.{shape_given}
use Rattle.own_model.specs.HeapStep.{without_block}
use Rattle.own_model.specs.OwnHeap.{OwnHeap, start_of}
use Rattle.own_model.proofs.HeapBestFitLemmas.{payload_told}
use Rattle.region_map.specs.Regions.{Regions}
use Rattle.dataspace_core.specs.Share.{Share}
use Rattle.dataspace_core.specs.Store.{Store}
use Rattle.heap_core.specs.declared.heap.Heap.{Heap}
use Rattle.heap_core.specs.declared.words.Chunk.{Chunk}
use Rattle.heap_core.specs.Heap.{payer_of as heap_payer, chunk_at, heap_in, heap_at, large_regions, share_at, IsSound as IsSoundHeap}
use Rattle.heap_core.specs.Lookup.{LiesInChunk}
use Rattle.heap_core.proofs.FoundLemmas.{IsSmall, IsLarge, blocks_at, payload_from, used_inside}
use Rattle.heap_core.proofs.GiveLemmas.{without_it}
use Rattle.heap_core.proofs.LookupLemmas.{Holds, held, small_length}
use Rattle.heap_core.proofs.PayloadLemmas.{no_chunk}
use Rattle.heap_core.proofs.StandLemmas.{chunk_blocks, count_blocks}

module _ (heap : Heap) (store : Store) (regions : Regions) (sound : IsSoundHeap heap store regions) where
  abbrev S : Share
  S = share_at (heap_payer heap) store regions

  -- a used block is one of a chunk that is there
  used_there : (chunk offset size : ℕ) → used_at offset (blocks_at heap store regions sound chunk) ≡ Some size → chunk < length heap.chunks.items
  used_there chunk offset size used = ⊎_elim
      (λ (within : chunk < length heap.chunks.items). within)
      (λ (past : length heap.chunks.items ≤ chunk).
      let count = count_blocks heap S sound.laid in
      let none : blocks_at heap store regions sound chunk ≡ [] = get_or_past _ chunk [] (omega (arith, past, count)) in
      absurd (none-some size (sym (ap (used_at offset) none) ∙ used)))
      (cases_lt chunk (length heap.chunks.items))

  -- a chunk starts where the model's does
  pub start_is : (chunk : ℕ) → chunk < length heap.chunks.items → start_of (heap_at heap store regions) chunk ≡ (chunk_at heap chunk).start
  unfolding heap_in
  start_is chunk within = get_or-map (λ (x : Chunk). x.start) heap.chunks.items chunk no_chunk 0 within

  -- a block that stands at a place is given back there
  pub given_at : (chunk offset size address : ℕ) → used_at offset (chunk_of (heap_at heap store regions).shape.chunks chunk) ≡ Some size → address ≡ start_of (heap_at heap store regions) chunk + offset + 16 →
      (without_block address (heap_at heap store regions)).shape ≡ shape_given chunk offset (heap_at heap store regions).shape
  unfolding heap_in
  given_at chunk offset size address used at =
      let there = used_there chunk offset size used in
      let inside = used_inside heap store regions sound chunk offset size there used in
      let least = inside.0 in
      let within = inside.1 in
      let is : address ≡ (chunk_at heap chunk).start + offset + 16 = at ∙ ap (λ s. s + offset + 16) (start_is chunk there) in
      ap (λ a. (without_block a (heap_at heap store regions)).shape) is
      ∙ ap (λ (h : OwnHeap). h.shape) (without_it heap store regions sound chunk offset there (omega (arith, least, within)) (heap_at heap store regions) refl)

  -- ---- payloads lie apart

  -- a large block's bytes are told
  large_there : (q : ℕ) (r : Region) → get (large_regions S) q ≡ Some r → get (heap_at heap store regions).large q ≡ Some (r.pages * 4096)
  unfolding heap_in
  large_there q r h = get-picked_at (λ (r : Region). Some (r.pages * 4096)) (large_regions S) q r h

  -- where there is no large block, two payloads that hold an address are one
  pub one_payload : (heap_at heap store regions).large ≡ empty → (address q r : ℕ) (v w : List ℕ) → get (heap_in heap S).payloads q ≡ Some v → get (heap_in heap S).payloads r ≡ Some w →
      Holds heap store regions sound address q v → Holds heap store regions sound address r w → q ≡ r
  one_payload none address q r v w first second at also = ⊎_elim
      (λ (small : IsSmall heap store regions sound q v).
      let long = ap length small.is ∙ small_length heap store regions sound small.k small.y small.n small.there small.used in
      let inside = used_inside heap store regions sound small.k small.y small.n small.there small.used in
      let least = inside.0 in
      let within = inside.1 in
      let from = at.from in
      let to = at.to in
      let is = small.at in
      let o : ℕ = address - (chunk_at heap small.k).start in
      let lies : LiesInChunk heap address small.k o = record { there = small.there; at = omega (arith, from, is); inside = omega (arith, to, is, long, least, within) } in
      let a = held heap store regions sound address small.k o lies q v first at in
      let b = held heap store regions sound address small.k o lies r w second also in
      let blocks = chunk_blocks heap S sound.laid small.k small.there in
      let same = same_Some (0 + a.y, a.n) (0 + b.y, b.n) (sym (payload_told 0 o a.y a.n (blocks_at heap store regions sound small.k) blocks a.has) ∙ payload_told 0 o b.y b.n (blocks_at heap store regions sound small.k) blocks b.has) in
      let start = ap (λ (p : ℕ × ℕ). p.0) same in
      let at_a = a.at in
      let at_b = b.at in
      omega (arith, start, at_a, at_b))
      (λ (large : IsLarge heap store regions sound q v). absurd (none-some (large.region.pages * 4096) (sym (get-empty q) ∙ ap (λ (m : NatMap ℕ). get m q) (sym none) ∙ large_there q large.region large.there)))
      (payload_from heap store regions sound q v first)
