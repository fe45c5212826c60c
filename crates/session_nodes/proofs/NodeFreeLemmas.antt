-- Where a node's block is taken no payload stood.
use Rattle.std.proofs.lemmas.Bool.Decides.{nat_tests}
use Rattle.std.proofs.Common.{◌≡◌, ◌≢◌, ◌⊎◌, ℕ, ◌+◌, ◌*◌, ◌<◌, ◌≤◌, length, Some, refl, sym, ap, subst, ◌∙◌, arith}
use Rattle.std.proofs.lemmas.Option.{none-some}
use Rattle.std.specs.Prelude.{Option, None}
use Rattle.std.specs.FinMap.{get}
use Rattle.own_model.specs.BestFit.{Spot, block_size, used_at}
use Rattle.own_model.specs.Growth.{hole_for}
use Rattle.own_model.specs.OwnHeap.{OwnHeap, payload_start}
use Rattle.own_model.specs.Region.{Region}
use Rattle.own_model.proofs.HeapBestFitLemmas.{IsHoleOf, best_is_hole, hole_unused}
use Rattle.own_model.proofs.HeapBlockLemmas.{hole_within}
use Rattle.own_model.proofs.NatMapLemmas.{get-insert_same, get-insert_other}
use Rattle.avl_alloc.proofs.LayoutLemmas.{sound_told}
use Rattle.region_map.specs.Regions.{Regions, heap_attached}
use Rattle.dataspace_core.specs.Share.{Share}
use Rattle.dataspace_core.specs.Store.{Store, part}
use Rattle.heap_core.specs.declared.heap.Heap.{Heap}
use Rattle.heap_core.specs.Calls.{TakesSmall, TakesGrown}
use Rattle.heap_core.specs.Heap.{payer_of as heap_payer, chunk_at, heap_in, heap_at, share_at, shape_in, words_in, IsSound as IsSoundHeap}
use Rattle.heap_core.specs.Lookup.{LiesOutside}
use Rattle.heap_core.proofs.FoundLemmas.{blocks_at}
use Rattle.heap_core.proofs.LookupLemmas.{no_payload, outside_free}
use Rattle.sliced_heap.proofs.ShareLemmas.{large_there}
use Rattle.dataspace_core.proofs.ShareLaws.{in_share}
use Rattle.heap_core.proofs.StandLemmas.{chunk_blocks, chunk_total, count_blocks}
use Rattle.heap_core.proofs.TakenLemmas.{in_other}
use Rattle.sliced_heap.specs.declared.heap.SlicedHeap.{SlicedHeap}
use Rattle.server_frame.specs.Session.{holding_of}
use Rattle.session_nodes.specs.SoundHeaps.{HasSoundHeaps}
use Rattle.sliced_heap.proofs.BesideLemmas.{gap_is_free}
use Rattle.session_nodes.proofs.FurnishedLemmas.{nodes_are}
use Rattle.session_nodes.proofs.NodeCallLemmas.{shape_is}
use Rattle.session_nodes.proofs.NodePlaceLemmas.{start_is}

module _ (heap : Heap) (store : Store) (regions : Regions) (sound : IsSoundHeap heap store regions) where
  abbrev S : Share
  S = share_at (heap_payer heap) store regions

  -- none behind the header of a hole
  hole_free : (hole : Spot) (address : ℕ) → IsHoleOf (heap_at heap store regions).shape.chunks hole → address ≡ payload_start (heap_at heap store regions) hole → get (heap_at heap store regions).payloads address ≡ None
  unfolding heap_in
  hole_free hole address is at =
      let count = count_blocks heap S sound.laid in
      let within = is.within in
      let there : hole.chunk < length heap.chunks.items = omega (arith, within, count) in
      let sizes = chunk_blocks heap S sound.laid hole.chunk there in
      let inside = hole_within hole.offset hole.size (blocks_at heap store regions sound hole.chunk) sizes is.there in
      let least = inside.0.least in
      let end = inside.1 in
      let total = chunk_total heap S sound.laid hole.chunk there in
      let start = start_is heap store regions sound hole.chunk there in
      no_payload heap store regions sound address hole.chunk (hole.offset + 16)
      (record { there = there; at = omega (arith, at, start); inside = omega (arith, end, least, total) })
      (λ y n used same.
      let e : y ≡ hole.offset = omega (arith, same) in
      none-some n (sym (ap (λ o. used_at o (blocks_at heap store regions sound hole.chunk)) e ∙ hole_unused hole.offset hole.size (blocks_at heap store regions sound hole.chunk) sizes is.there) ∙ used))

  -- so none where the best hole is
  best_free : (n : ℕ) (hole : Spot) (address : ℕ) → hole_for n (heap_at heap store regions).shape ≡ Some hole → address ≡ payload_start (heap_at heap store regions) hole → get (heap_at heap store regions).payloads address ≡ None
  unfolding heap_in
  best_free n hole address best at =
      let blocks = (sound_told heap.fit (words_in heap S.part) sound.laid.fit).blocks in
      hole_free hole address (best_is_hole (block_size n) (heap_at heap store regions).shape.chunks hole blocks best).0 at

  -- nor in a chunk that was no region before
  module _ (later : Heap) (new : Store) (ds pages tag start : ℕ) (sound' : IsSoundHeap later new (heap_attached regions ds pages tag start)) (free : get regions.heap start ≡ None) where
    abbrev grown : Regions
    grown = heap_attached regions ds pages tag start

    abbrev region : Region
    region = record { of = ds; pages = pages }

    apart : (s : ℕ) (r : Region) → get regions.heap s ≡ Some r → (start + 16 < s) ⊎ (s + r.pages * 4096 ≤ start + 16)
    apart s r there =
        let other : s ≢ start = λ e. none-some r (sym free ∙ sym (ap (get regions.heap) e) ∙ there) in
        let now : get grown.heap start ≡ Some region = get-insert_same regions.heap start region start refl in
        let still : get grown.heap s ≡ Some r = get-insert_other regions.heap start region s other ∙ there in
        let some = sound'.window.lie.some start region now in
        in_other s r.pages start pages (start + 16) (sound'.window.lie.apart s start r region still now other) (omega arith) (omega (arith, some))

    grown_outside : LiesOutside heap S (start + 16)
    grown_outside = record {
      chunks = λ k there.
          let stands = sound.laid.chunks k there in
          subst (λ n. (start + 16 < (chunk_at heap k).start) ⊎ ((chunk_at heap k).start + n ≤ start + 16)) (sym stands.whole)
          (apart (chunk_at heap k).start (record { of = (chunk_at heap k).ds.0; pages = stands.pages }) (in_share (part (heap_payer heap) store) regions.heap regions.tags (chunk_at heap k).start _ stands.region).0);
      large = λ s r large. apart s r (in_share (part (heap_payer heap) store) regions.heap regions.tags s r (large_there S s r large)).0;
    }

    chunk_free : get (heap_at heap store regions).payloads (start + 16) ≡ None
    chunk_free = outside_free heap store regions sound (start + 16) grown_outside

  grown_free : (later : Heap) (n address : ℕ) (new : Store) (after : Regions) → IsSoundHeap later new after → TakesGrown heap later n address store new regions after → get (heap_at heap store regions).payloads address ≡ None
  grown_free later n address new after sound' takes = grind (arith, nat_tests, get-insert_same, chunk_free, gap_is_free)

-- where a node's block is taken there was none
pub node_free : (asked : ℕ) {heap later : Heap} {sliced : SlicedHeap} {store new : Store} {regions after : Regions} (f : HasSoundHeaps heap sliced store regions) → IsSoundHeap later new after → (address : ℕ) →
    ((hole : Spot) → hole_for asked (shape_in heap (part (heap_payer heap) store)) ≡ Some hole → TakesSmall heap later asked hole address store new regions after) →
    (hole_for asked (shape_in heap (part (heap_payer heap) store)) ≡ None → TakesGrown heap later asked address store new regions after) →
    get (heap_in heap (holding_of sliced store regions)).payloads address ≡ None
node_free asked {heap} {later} {sliced} {store} {new} {regions} {after} f sound address small grown =
    ap (λ (h : OwnHeap). get h.payloads address) (nodes_are heap sliced store regions f.payer)
    ∙ elim (hole_for asked (shape_in heap (part (heap_payer heap) store))) as (λ (o : Option Spot). hole_for asked (shape_in heap (part (heap_payer heap) store)) ≡ o → get (heap_at heap store regions).payloads address ≡ None) [
      | Some hole ↦ λ best. best_free heap store regions f.sound asked hole address (ap (hole_for asked) (shape_is heap store regions) ∙ best) (small hole best).at
      | None ↦ λ none. grown_free heap store regions f.sound later asked address new after sound (grown none)
    ] refl
