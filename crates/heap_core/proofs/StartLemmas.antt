-- The payload that starts at an address stands in the one heap region that holds the address.
use Rattle.std.proofs.Common.{◌≡◌, ℕ, ◌+◌, ◌-◌, ◌%◌, ◌<◌, ◌≤◌, true, List, length, refl, sym, ap, subst, ◌∙◌, ⊎_elim, arith, Some, IsSome}
use Rattle.std.proofs.lemmas.Bool.Decides.{nat_tests}
use Rattle.std.proofs.lemmas.Option.{none-some}
use Rattle.std.specs.Prelude.{Option, None}
use Rattle.std.specs.FinMap.{get}
use Rattle.own_model.specs.Region.{Region, holds as holds_range}
use Rattle.own_model.proofs.HeapBestFitLemmas.{HasOffset, payload_told}
use Rattle.own_model.proofs.NatMapLemmas.{some_of}
use Rattle.region_map.specs.Regions.{Regions, AreSound, heap_found}
use Rattle.dataspace_core.specs.Store.{Store, part}
use Rattle.dataspace_core.specs.Share.{Share}
use Rattle.avl_alloc.specs.Layout as avl
use Rattle.heap_core.specs.declared.heap.Heap.{Heap}
use Rattle.heap_core.specs.Calls.{HoldsRange}
use Rattle.heap_core.specs.Heap.{IsSound, chunk_at, heap_at, payer_of, share_at}
use Rattle.heap_core.specs.Lookup.{LiesInChunk, LiesInLarge}
use Rattle.heap_core.proofs.FoundLemmas.{IsLarge, IsSmall, blocks_at, payload_from, used_inside}
use Rattle.heap_core.proofs.FrameLemmas.{used_even}
use Rattle.heap_core.proofs.LookupLemmas.{large_held, large_length, outside_free, range_held, small_length}
use Rattle.sliced_heap.proofs.ShareLemmas.{large_there}
use Rattle.dataspace_core.proofs.ShareLaws.{in_share}
use Rattle.heap_core.proofs.SiteLemmas.{none_found, only}
use Rattle.heap_core.proofs.StandLemmas.{chunk_blocks}

module _ (heap : Heap) (store : Store) (regions : Regions) (sound : IsSound heap store regions) (map : AreSound regions) (address : ℕ) where
  abbrev S : Share
  S = share_at (payer_of heap) store regions

  -- where a payload starts, the map finds a region
  pub start_found : IsSome (get (heap_at heap store regions).payloads address) → heap_found regions address ≡ None → ⊥
  start_found there none = grind (arith, nat_tests, some_of, none-some, outside_free, none_found)

  module _ (start of tag : ℕ) (found : heap_found regions address ≡ Some (start, of, tag)) (payload : List ℕ) where
    -- a used block of a chunk stands in the region that is found
    small_start : (small : IsSmall heap store regions sound address payload) → ((chunk_at heap small.k).start ≡ start) × ((chunk_at heap small.k).ds.0 ≡ of)
    small_start small =
        let chunk = chunk_at heap small.k in
        let stands = sound.laid.chunks small.k small.there in
        let whole = stands.whole in
        let inside = used_inside heap store regions sound small.k small.y small.n small.there small.used in
        let least = inside.0 in
        let to = inside.1 in
        let is = small.at in
        let region : Region = record { of = chunk.ds.0; pages = stands.pages } in
        let was = in_share (part (payer_of heap) store) regions.heap regions.tags chunk.start region stands.region in
        let holds : holds_range address 1 (chunk.start, region) ≡ true = grind (arith, nat_tests) in
        only heap store regions sound map address start of tag found chunk.start region was.0 holds

    -- and so does a large block
    large_start : (large : IsLarge heap store regions sound address payload) → (address ≡ start) × (large.region.of ≡ of)
    large_start large =
        let least = (sound.laid.large_stands address large.region large.there).least in
        let was = in_share (part (payer_of heap) store) regions.heap regions.tags address large.region (large_there S address large.region large.there) in
        let holds : holds_range address 1 (address, large.region) ≡ true = grind (arith, nat_tests) in
        only heap store regions sound map address start of tag found address large.region was.0 holds

    -- a payload starts at a multiple of 16
    pub start_even : get (heap_at heap store regions).payloads address ≡ Some payload → (address - start) % 16 ≡ 0
    start_even there = ⊎_elim
        (λ (small : IsSmall heap store regions sound address payload).
        let even = used_even small.y small.n (blocks_at heap store regions sound small.k) (chunk_blocks heap S sound.laid small.k small.there) small.used in
        let from = (small_start small).0 in
        let is = small.at in
        omega (arith, even, from, is))
        (λ (large : IsLarge heap store regions sound address payload). let from = (large_start large).0 in omega (arith, from))
        (payload_from heap store regions sound address payload there)

    module _ (into count : ℕ) (some : 1 ≤ count) (few : into + count ≤ length payload) where
      in_chunk : IsSmall heap store regions sound address payload → HoldsRange heap store regions of (address - start + into) (address + into) count
      in_chunk small =
          let chunk = chunk_at heap small.k in
          let inside = used_inside heap store regions sound small.k small.y small.n small.there small.used in
          let least = inside.0 in
          let to = inside.1 in
          let is = small.at in
          let long = ap length small.is ∙ small_length heap store regions sound small.k small.y small.n small.there small.used in
          let one = small_start small in
          let lies : LiesInChunk heap (address + into) small.k (small.y + 16 + into) = record { there = small.there; at = omega (arith, is); inside = omega (arith, least, to, long, few, some) } in
          let has : HasOffset (blocks_at heap store regions sound small.k) (small.y + 16 + into) small.y small.n =
          record { used = small.used; low = omega arith; high = omega (arith, least, long, few, some) } in
          let told = payload_told 0 (small.y + 16 + into) small.y small.n (blocks_at heap store regions sound small.k) (chunk_blocks heap S sound.laid small.k small.there) has in
          let held = range_held heap store regions sound (address + into) small.k (small.y + 16 + into) lies (0 + small.y) small.n told count some (omega (arith, long, least, few)) in
          let from = one.0 in
          let at : small.y + 16 + into ≡ address - start + into = omega (arith, is, from) in
          subst (λ ds. HoldsRange heap store regions ds (address - start + into) (address + into) count) one.1
          (subst (λ o. HoldsRange heap store regions chunk.ds.0 o (address + into) count) at held)

      in_large : IsLarge heap store regions sound address payload → HoldsRange heap store regions of (address - start + into) (address + into) count
      in_large large =
          let least = (sound.laid.large_stands address large.region large.there).least in
          let one = large_start large in
          let long = large_length heap store regions sound address payload large in
          let lies : LiesInLarge S (address + into) address of = record {
            pages = large.region.pages;
            region = large.there ∙ ap (λ k. Some (record { of = k; pages = large.region.pages })) one.1;
            low = omega arith;
            high = omega (arith, least, long, few, some);
          } in
          let held = large_held heap store regions sound (address + into) address of lies count some (omega (arith, long, few)) in
          let from = one.0 in
          let at : address + into - address ≡ address - start + into = omega (arith, from) in
          subst (λ o. HoldsRange heap store regions of o (address + into) count) at held

      -- each range of it is held there
      pub start_held : get (heap_at heap store regions).payloads address ≡ Some payload → HoldsRange heap store regions of (address - start + into) (address + into) count
      start_held there = ⊎_elim in_chunk in_large (payload_from heap store regions sound address payload there)

  module _ (k offset : ℕ) (lies : LiesInChunk heap address k offset) where
    region_of : (o : Option (ℕ × ℕ × ℕ)) → heap_found regions address ≡ o → (tag : ℕ) × (heap_found regions address ≡ Some ((chunk_at heap k).start, (chunk_at heap k).ds.0, tag))
    region_of None none =
        let at = lies.at in
        let inside = lies.inside in
        absurd (⊎_elim
        (λ (low : address < (chunk_at heap k).start). omega (arith, low, at))
        (λ (past : (chunk_at heap k).start + avl.bytes_of heap.fit k ≤ address). omega (arith, past, at, inside))
        ((none_found heap store regions sound map address none).chunks k lies.there))
    region_of (Some (start, of, tag)) found =
        let chunk = chunk_at heap k in
        let stands = sound.laid.chunks k lies.there in
        let whole = stands.whole in
        let at = lies.at in
        let inside = lies.inside in
        let region : Region = record { of = chunk.ds.0; pages = stands.pages } in
        let was = in_share (part (payer_of heap) store) regions.heap regions.tags chunk.start region stands.region in
        let holds : holds_range address 1 (chunk.start, region) ≡ true = grind (arith, nat_tests) in
        let one = only heap store regions sound map address start of tag found chunk.start region was.0 holds in
        (tag, found ∙ (λ i. Some (sym one.0 i, sym one.1 i, tag)))

    -- the map finds the region of the chunk in which an address lies
    chunk_found : (tag : ℕ) × (heap_found regions address ≡ Some ((chunk_at heap k).start, (chunk_at heap k).ds.0, tag))
    chunk_found = region_of (heap_found regions address) refl

    -- a payload of the chunk starts at a multiple of 16
    pub chunk_even : (payload : List ℕ) → get (heap_at heap store regions).payloads address ≡ Some payload → offset % 16 ≡ 0
    chunk_even payload there =
        let even = start_even (chunk_at heap k).start (chunk_at heap k).ds.0 chunk_found.0 chunk_found.1 payload there in
        let at = lies.at in
        omega (arith, even, at)

    -- and each range of it is held there
    pub chunk_held : (payload : List ℕ) (into count : ℕ) → 1 ≤ count → into + count ≤ length payload → get (heap_at heap store regions).payloads address ≡ Some payload →
        HoldsRange heap store regions (chunk_at heap k).ds.0 (offset + into) (address + into) count
    chunk_held payload into count some few there =
        let held = start_held (chunk_at heap k).start (chunk_at heap k).ds.0 chunk_found.0 chunk_found.1 payload into count some few there in
        let at = lies.at in
        let same : address - (chunk_at heap k).start + into ≡ offset + into = omega (arith, at) in
        subst (λ o. HoldsRange heap store regions (chunk_at heap k).ds.0 o (address + into) count) same held
