-- A write of a node changes its payload alone.
use Rattle.std.proofs.Common.{rules, ◌≡◌, ℕ, ◌+◌, ◌-◌, ◌*◌, ◌^◌, ◌<◌, ◌≤◌, true, List, length, Some, sym, ap, subst, ◌∙◌, ⊎_elim, arith, inl, inr}
use Rattle.std.proofs.lemmas.Bool.{cases_eq}
use Rattle.std.proofs.lemmas.Option.{same_Some}
use Rattle.std.specs.FinMap.{get, len}
use Rattle.heap_core.proofs.ClearedLemmas.{window_low}
use Rattle.trade_base.specs.Bytes.{with_bytes}
use Rattle.own_model.specs.OwnState.{zeros}
use Rattle.own_model.proofs.ByteLemmas.{length-zeros}
use Rattle.own_model.specs.Region.{Region}
use Rattle.own_model.proofs.HeapStepLemmas.{not_both}
use Rattle.own_model.proofs.Totals.{len-insert_at}
use Rattle.region_map.specs.Regions.{Regions}
use Rattle.dataspace_core.specs.Share.{Share}
use Rattle.dataspace_core.specs.Store.{Store, Part, part, account_in, account_of, bytes_of, part_with_bytes, PartBecomes}
use Rattle.dataspace_core.proofs.PartLaws.{account_of-part}
use Rattle.dataspace_core.proofs.WindowLaws.{in_memory}
use Rattle.heap_core.specs.declared.heap.Heap.{Heap}
use Rattle.heap_core.specs.Calls.{HoldsRange}
use Rattle.heap_core.specs.Heap.{payer_of as heap_payer, chunk_at, large_tag, share_at, IsSound as IsSoundHeap}
use Rattle.heap_core.specs.Theorems.{Pokes}
use Rattle.heap_core.specs.Words.{are_bytes}
use Rattle.heap_core.proofs.FoundLemmas.{IsSmall, IsLarge, payload_from, used_inside}
use Rattle.heap_core.proofs.LookupLemmas.{payload_some}
use Rattle.heap_core.proofs.RangeLemmas.{payload_poked}
use Rattle.dataspace_core.proofs.ShareLaws.{in_share}
use Rattle.session_nodes.proofs.FurnishedLemmas.{ChangesNodes}
use Rattle.session_nodes.proofs.LentLemmas.{lent_places}
use Rattle.sliced_heap.proofs.WindowLemmas.{IsPut, is_put, blocks_in_place}
use Rattle.sliced_heap.proofs.ShareLemmas.{kept_tag, shown_large}

module _ (heap : Heap) (store : Store) (regions : Regions) (sound : IsSoundHeap heap store regions) (ds offset address : ℕ) (bytes : List ℕ)
    (held : HoldsRange heap store regions ds offset address (length bytes)) where
  abbrev S : Share
  S = share_at (heap_payer heap) store regions

  abbrev p : Part
  p = part (heap_payer heap) store

  -- the region of the payload's dataspace
  abbrev region : Region
  region = record { of = ds; pages = held.pages }

  pub there : get regions.heap held.start ≡ Some region
  there = (in_share p regions.heap regions.tags held.start region held.region).0

  -- the bytes are all that it shows
  pub whole : length held.bytes ≡ held.pages * 4096
  whole =
      let shown = sound.window.shown_whole held.start region there in
      let mine = in_memory (heap_payer heap) ds held.bytes store held.there in
      let same = same_Some mine.0 shown.space (sym mine.1 ∙ shown.there) in
      ap length (sym mine.3) ∙ ap (λ s. length s.bytes) same ∙ shown.whole

  -- a region of the heap with a byte of the payload is the payload's
  one_region : (s : ℕ) (r : Region) → get regions.heap s ≡ Some r → s ≤ held.at → held.at < s + r.pages * 4096 → s ≡ held.start
  one_region s r at low high = elim (cases_eq s held.start) [
    | inl same ↦ same
    | inr other ↦
        let some = (payload_some heap store regions sound held.at held.payload held.starts).to in
        absurd (not_both s r.pages held.start held.pages held.at (sound.window.lie.apart s held.start r region at there other) low high
        (omega (arith, held.stands)) (omega (arith, held.stands, held.within, whole, some)))
  ]

  -- so it keeps the number of a chunk or of a large block
  held_tag : (k : ℕ) × (get regions.tags held.start ≡ Some k) × (k ≤ large_tag)
  held_tag = ⊎_elim
      (λ (small : IsSmall heap store regions sound held.at held.payload).
      let stands = sound.laid.chunks small.k small.there in
      let inside = used_inside heap store regions sound small.k small.y small.n small.there small.used in
      let least = inside.0 in
      let within = inside.1 in
      let size = stands.whole in
      let at = small.at in
      let few = sound.laid.few in
      let its : Region = record { of = (chunk_at heap small.k).ds.0; pages = stands.pages } in
      let same = one_region (chunk_at heap small.k).start its (in_share p regions.heap regions.tags (chunk_at heap small.k).start its stands.region).0 (omega (arith, at)) (omega (arith, at, least, within, size)) in
      (small.k, ap (get regions.tags) (sym same) ∙ kept_tag (heap_payer heap) store regions (chunk_at heap small.k).start its stands.region ∙ stands.tag, let in_heap = small.there in omega (arith, in_heap, few)))
      (λ (large : IsLarge heap store regions sound held.at held.payload).
      let its = shown_large (heap_payer heap) store regions held.at large.region large.there in
      let least = (sound.laid.large_stands held.at large.region large.there).least in
      let same = one_region held.at large.region its.there (omega arith) (omega (arith, least)) in
      (large_tag, ap (get regions.tags) (sym same) ∙ its.tag, omega arith))
      (payload_from heap store regions sound held.at held.payload held.starts)

  module _ (are : are_bytes bytes ≡ true) {new : Store} (becomes : PartBecomes (heap_payer heap) (part_with_bytes p ds offset bytes) store new) where
    pub pokes : Pokes heap held.at held.payload (address - held.at) bytes store new regions
    pokes = payload_poked heap ds offset address bytes store new regions sound are held becomes

    fits : offset + length bytes ≤ length held.bytes
    fits = omega (arith, held.into, held.low, held.high, held.within)

    put : IsPut (heap_payer heap) ds store new
    put = is_put (heap_payer heap) ds offset bytes held.bytes held.there fits becomes

    pub poked_account : account_in new (heap_payer heap) ≡ account_in store (heap_payer heap)
    poked_account = sym (account_of-part (heap_payer heap) new) ∙ ap account_of becomes.own ∙ account_of-part (heap_payer heap) store

    spaces_count : len (part (heap_payer heap) new).spaces ≡ len p.spaces
    spaces_count = ap (λ (q : Part). len q.spaces) becomes.own ∙ len-insert_at p.spaces ds (with_bytes (bytes_of p ds) offset bytes) held.bytes held.there

    pub poked_changes : ChangesNodes (heap_payer heap) heap store regions heap new regions
    poked_changes = search (rules, pokes, blocks_in_place, lent_places, put, held_tag, there, spaces_count, poked_account)

-- a node's bytes end below 2^40
pub range_low : (heap : Heap) (store : Store) (regions : Regions) → IsSoundHeap heap store regions → (ds offset address count : ℕ) → HoldsRange heap store regions ds offset address count → offset + count ≤ 2 ^ 40
range_low heap store regions sound ds offset address count held =
    let same : HoldsRange heap store regions ds offset address (length (zeros count)) = subst (HoldsRange heap store regions ds offset address) (sym (length-zeros count)) held in
    let long = whole heap store regions sound ds offset address (zeros count) same in
    let in_map = there heap store regions sound ds offset address (zeros count) same in
    let window = sound.window in
    let within = window.lie.within same.start (record { of = ds; pages = same.pages }) in_map in
    omega (arith, within.to_high, window_low regions.pages window.few, same.into, same.low, same.high, same.within, long, length-zeros count)
