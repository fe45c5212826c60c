-- What a call of a heap leaves of the account's sliced blocks on the same map, and of its dataspaces that are no block's.
use Rattle.std.proofs.Common.{rules, ◌≡◌, ◌≢◌, ℕ, ◌/◌, ◌<◌, ◌≤◌, false, true, Some, is_some, IsSome, refl, sym, ap, ◌∙◌, arith}
use Rattle.std.proofs.lemmas.Bool.{false_from_ne_true}
use Rattle.std.specs.Prelude.{None}
use Rattle.std.specs.FinMap.{get, len}
use Rattle.own_model.specs.HeapWindow.{heap_gap}
use Rattle.own_model.specs.Region.{Region}
use Rattle.own_model.proofs.NatMapLemmas.{get-insert_same, apart_from_free}
use Rattle.region_map.specs.Regions.{Regions, heap_attached, heap_detached}
use Rattle.dataspace_core.specs.Store.{Store, Part, part}
use Rattle.dataspace_core.proofs.ShareLaws.{in_share, some_alike}
use Rattle.dataspace_core.proofs.WindowLaws.{in_none, unshown_free}
use Rattle.sliced_heap.specs.Window.{share_at, IsMapOf, IsNoHeapBlock, block_regions, large_tag, large_regions}
use Rattle.sliced_heap.proofs.BesideLemmas.{gap_is_free}
use Rattle.sliced_heap.proofs.ShareLemmas.{IsShownAs, kept_tag, shown_large}
use Rattle.sliced_heap.proofs.WindowLemmas.{ShowAlike, blocks_in_place, blocks_attached, blocks_detached}
use Rattle.heap_core.specs.declared.heap.Heap.{Heap}
use Rattle.heap_core.specs.Calls.{KeepsSpaces, AddsSpace}
use Rattle.heap_core.specs.Heap.{IsSound, keys_in, chunk_at, payer_of}
use Rattle.heap_core.specs.Words.{is_among}
use Rattle.heap_core.proofs.AroundLemmas.{among_found}
use Rattle.heap_core.proofs.ChunkLemmas.{key_is, in_chunks}
use Rattle.heap_core.proofs.RoomLemmas.{len_alike}

module _ (heap : Heap) (store : Store) (regions : Regions) (sound : IsSound heap store regions) where
  -- a chunk is shown by a heap region, with a number that no sliced block has
  pub record IsShownChunk (key : ℕ) : Type 0 where
    pub start : ℕ
    pub region : Region
    pub number : ℕ
    pub there : get regions.heap start ≡ Some region
    pub of : region.of ≡ key
    pub tag : get regions.tags start ≡ Some number
    pub low : number < large_tag

  pub shown_chunk : (key : ℕ) → is_among (keys_in heap) key ≡ true → IsShownChunk key
  shown_chunk key among =
      let at = among_found (keys_in heap) key among in
      let within = in_chunks heap store regions sound at.0 at.1 in
      let stands = sound.laid.chunks at.0 within in
      let region : Region = record { of = (chunk_at heap at.0).ds.0; pages = stands.pages } in
      record {
        start = (chunk_at heap at.0).start;
        region = region;
        number = at.0;
        there = (in_share (part (payer_of heap) store) regions.heap regions.tags (chunk_at heap at.0).start region stands.region).0;
        of = sym (key_is heap store regions sound at.0 at.1) ∙ at.2;
        tag = kept_tag (payer_of heap) store regions (chunk_at heap at.0).start region stands.region ∙ stands.tag;
        low = let few = sound.laid.few in omega (arith, few, within);
      }

  -- so what no such region shows is no chunk's
  pub no_chunk : (key : ℕ) → IsNoHeapBlock regions key → is_among (keys_in heap) key ≡ false
  no_chunk key none = false_from_ne_true _ (λ among.
      let chunk = shown_chunk key among in
      let low = chunk.low in
      none chunk.start chunk.number chunk.region chunk.there chunk.tag (omega arith) chunk.of)

-- ---- what a call leaves

-- the account's sliced blocks stay, and its dataspaces that are no block of the heap's
pub record LeavesRest (account : ℕ) (old new : Store) (regions after : Regions) : Type 0 where
  pub stands : block_regions (share_at account new after) ≡ block_regions (share_at account old regions)
  pub kept : (k : ℕ) → IsSome (get (part account old).spaces k) → IsNoHeapBlock regions k → get (part account new).spaces k ≡ get (part account old).spaces k

module _ (heap : Heap) (store new : Store) (regions : Regions) (sound : IsSound heap store regions) where
  -- the account, and its part before and after
  abbrev a : ℕ
  a = payer_of heap

  abbrev p : Part
  p = part (payer_of heap) store

  abbrev p' : Part
  p' = part (payer_of heap) new

  -- nothing but bytes
  module _ (spaces : KeepsSpaces heap store new) where
    pub alike_in_place : (k : ℕ) → is_some (get p'.spaces k) ≡ is_some (get p.spaces k)
    alike_in_place k = some_alike _ _ (spaces.lengths k)

    pub count_in_place : len p'.spaces ≡ len p.spaces
    count_in_place = len_alike p'.spaces p.spaces spaces.lengths

    pub rest_in_place : LeavesRest a store new regions regions
    rest_in_place = search (rules, blocks_in_place, alike_in_place, no_chunk)

  -- a region more
  module _ (ds bytes tag start : ℕ) (low : tag ≤ large_tag) (map : IsMapOf new (heap_attached regions ds (bytes / 4096) tag start)) (gap : heap_gap regions.pages regions.heap (bytes / 4096) ≡ Some start) (spaces : AddsSpace heap ds store new) where
    abbrev region : Region
    region = record { of = ds; pages = bytes / 4096 }

    -- it stands there
    pub there_now : get (heap_attached regions ds (bytes / 4096) tag start).heap start ≡ Some region
    there_now = get-insert_same regions.heap start region start refl

    -- nothing did before
    free : get regions.heap start ≡ None
    free = gap_is_free regions.pages regions.heap (bytes / 4096) start (map.lie.some start region there_now) sound.window.lie gap

    -- the account hadn't its dataspace
    pub fresh_attached : get p.spaces ds ≡ None
    fresh_attached = in_none (payer_of heap) ds store spaces.fresh

    pub alike_attached : ShowAlike p p' regions.heap
    alike_attached s r there = some_alike _ _ (spaces.lengths r.of (unshown_free store regions.heap ds sound.window.shown_whole spaces.fresh s r there))

    pub rest_attached : LeavesRest a store new regions (heap_attached regions ds (bytes / 4096) tag start)
    rest_attached = search (rules, blocks_attached, free, alike_attached, apart_from_free, fresh_attached, no_chunk)

  -- a large block less
  module _ (ds pages start : ℕ) (was : get (large_regions (share_at a store regions)) start ≡ Some (record { of = ds; pages = pages })) (others : (k : ℕ) → k ≢ ds → get p'.spaces k ≡ get p.spaces k) where
    large : IsShownAs a store regions start (record { of = ds; pages = pages }) large_tag
    large = shown_large a store regions start _ was

    pub alike_detached : (s : ℕ) (r : Region) → s ≢ start → get regions.heap s ≡ Some r → is_some (get p'.spaces r.of) ≡ is_some (get p.spaces r.of)
    alike_detached s r apart there = ap is_some (others r.of (λ e. apart (sound.window.once s start r _ there large.there e)))

    pub rest_detached : LeavesRest a store new regions (heap_detached regions start)
    rest_detached = record {
      stands = blocks_detached a store new regions start large_tag large.tag refl alike_detached;
      kept = λ k some none. others k (λ e. none start large_tag _ large.there large.tag (omega arith) (sym e));
    }
