-- A dataspace is allocated for a block, and can then be entered.
use Rattle.std.proofs.Common.{◌≡◌, ◌≤◌, ◌+◌, ◌-◌, ◌/◌, ℕ, List, [], drop, length, Some, refl, sym, ap, ◌∙◌, unwrap_or, arith}
use Rattle.std.proofs.lemmas.List.{drop-replicate}
use Rattle.std.specs.Prelude.{Option, None}
use Rattle.std.specs.Option.{option_map}
use Rattle.std.specs.FinMap.{get, insert, len}
use Rattle.trade_base.specs.Page.{page_of}
use Rattle.own_model.specs.Account.{Account, charged}
use Rattle.own_model.specs.NatMap.{NatMap, total}
use Rattle.own_model.specs.OwnState.{zeros}
use Rattle.own_model.specs.Region.{Region}
use Rattle.own_model.specs.Sliced.{sliced_header as header}
use Rattle.own_model.proofs.ByteLemmas.{length-zeros}
use Rattle.own_model.proofs.NatMapLemmas.{get-insert_same, get-insert_other}
use Rattle.own_model.proofs.Totals.{total-insert_new, len-insert_new}
use Rattle.region_map.specs.Regions.{Regions}
use Rattle.dataspace_core.specs.Store.{Store, Space, Part, part, bytes_of, PartBecomes, part_with_space, with_space, ram_limits_in}
use Rattle.dataspace_core.proofs.LimitLaws.{pages_held, regions_within_pages}
use Rattle.dataspace_core.proofs.PartLaws.{account_of-part}
use Rattle.dataspace_core.proofs.PartLemmas.{part-fresh}
use Rattle.dataspace_core.proofs.WindowLaws.{unshown_free}
use Rattle.sliced_heap.specs.declared.heap.SlicedHeap.{SlicedHeap}
use Rattle.sliced_heap.specs.Heap.{payer_of, blocks_at, MapsMemory, IsSound, CanEnter, Enters, TakesBlock}
use Rattle.sliced_heap.specs.Theorems.{HeapStays}
use Rattle.sliced_heap.proofs.ShareLemmas.{shown_block}
use Rattle.sliced_heap.proofs.HeapLaws.{map_stays_for_payer, heap_stays}
use Rattle.dataspace_core.specs.Share.{IsShownByNone}

-- so many fewer zeros are left
drop-zeros : (m n : ℕ) → drop m (zeros n) ≡ zeros (n - m)
unfolding zeros
drop-zeros m n = drop-replicate m n 0

module _ (heap : SlicedHeap) (ds size : ℕ) (old new : Store) (regions : Regions) (sound : IsSound heap old regions)
    (fresh : get old.spaces ds ≡ None) (becomes : PartBecomes (payer_of heap) (part_with_space (part (payer_of heap) old) ds size) old new) (some : 1 ≤ size) where
  -- the account, and its part before
  abbrev account : ℕ
  account = payer_of heap

  abbrev before : Part
  before = part account old

  -- no region shows the new dataspace yet
  unshown : IsShownByNone regions.heap ds
  unshown = unshown_free old regions.heap ds sound.maps.shown fresh

  -- the new one is all zero
  pub new_there : get (part account new).spaces ds ≡ Some (zeros (page_of size))
  new_there = ap (λ (p : Part). get p.spaces ds) becomes.own ∙ get-insert_same before.spaces ds _ ds refl

  -- so the map and the heap stay as they are
  same_maps : MapsMemory new regions
  same_maps = map_stays_for_payer account _ _ old new regions regions sound.maps (record { heap = refl; tags = refl; most = refl; pages = refl }) becomes sound.opens refl
      (ap (λ (a : Account). a.ram_limit) (account_of-part account old))
      (λ s r h. ap (option_map length) (get-insert_other before.spaces ds _ r.of (unshown s r h)))

  pub alloc_stays : HeapStays heap old new regions regions
  alloc_stays = heap_stays heap _ old new regions regions sound (record { heap = refl; tags = refl; most = refl; pages = refl }) same_maps becomes refl
      (λ s r h. get-insert_other before.spaces ds _ r.of (unshown s r (shown_block account old regions s r h).there))

  -- there is room for one region more
  pub can_enter : (pages : ℕ) → pages ≡ page_of size / 4096 → new ≡ with_space old ds account size → total (λ (s : Space). length s.bytes) new.spaces ≤ ram_limits_in new → CanEnter account ds pages new regions
  can_enter pages is now within =
      let held = pages_held regions.heap old.spaces sound.maps.shown sound.maps.once in
      let few = regions_within_pages regions.heap (λ s r h. (sound.maps.shown s r h).some) in
      let more : total (λ (s : Space). length s.bytes) new.spaces ≡ total (λ (s : Space). length s.bytes) old.spaces + page_of size =
      ap (λ (s : Store). total (λ (x : Space). length x.bytes) s.spaces) now
      ∙ total-insert_new (λ (x : Space). length x.bytes) old.spaces ds _ fresh
      ∙ ap (λ n. total (λ (x : Space). length x.bytes) old.spaces + n) (length-zeros (page_of size)) in
      let machine = same_maps.pages in
      let most = same_maps.most in
      record {
        bytes = zeros (page_of size);
        there = new_there;
        some = omega (arith, some, is);
        whole = length-zeros (page_of size) ∙ omega (arith, is);
        unshown = unshown;
        room = omega (arith, held, few, more, within, machine, most, is, some);
        fits = omega (arith, held, more, within, machine, is);
      }

  -- so a block is taken
  pub takes : (n pages address : ℕ) (last : Store) (after : Regions) → size ≡ header + n → pages ≡ page_of size / 4096 → Enters account ds pages address new last regions after → TakesBlock account n address old last regions after
  takes n pages address last after of_size of_pages enters = record {
    ds = ds;
    start = enters.start;
    at = enters.at;
    gap = rw (← of_size) (rw (← of_pages) enters.gap);
    lowest = rw (← of_size) (rw (← of_pages) enters.lowest);
    fresh = fresh;
    attached = rw (← of_size) (rw (← of_pages) enters.attached);
    charge = rw (← of_size) (enters.charge ∙ ap (λ (p : Part). p.account) becomes.own ∙ ap (λ (a : Account). Some (charged a (page_of size) 1)) (account_of-part account old));
    stands = rw (← of_size) (rw (← of_pages) (enters.stands ∙ ap (λ m. insert m enters.start (record { of = ds; pages = pages })) alloc_stays.stands));
    blocks = rw (← of_size) (enters.blocks
        ∙ ap (λ m. insert m address (drop header (bytes_of (part account new) ds))) alloc_stays.blocks
        ∙ ap (λ (o : Option (List ℕ)). insert (blocks_at account old regions) address (drop header (unwrap_or o []))) new_there
        ∙ ap (insert (blocks_at account old regions) address) (drop-zeros header (page_of size)));
    dataspaces = λ k other none.
        enters.dataspaces k other (λ s r h. none s r (ap (λ (m : NatMap Region). get m s) (sym alloc_stays.stands) ∙ h))
        ∙ ap (λ (p : Part). get p.spaces k) becomes.own ∙ get-insert_other before.spaces ds _ k other;
    count = enters.count ∙ ap (λ (p : Part). len p.spaces) becomes.own ∙ len-insert_new before.spaces ds _ (part-fresh old account ds fresh);
  }
