-- Which block holds an address.
use Rattle.std.proofs.Common.{◌≡◌, ◌≤◌, ◌<◌, ◌+◌, ◌*◌, ◌==◌, ◌&&◌, ℕ, true, false, length, Some, is_some, sym, ap, ◌∙◌, true≢false, arith}
use Rattle.std.proofs.lemmas.Bool.Decides.{nat_tests}
use Rattle.std.proofs.lemmas.Option.{same_Some}
use Rattle.std.specs.Prelude.{None}
use Rattle.std.specs.FinMap.{get}
use Rattle.own_model.specs.Region.{Region}
use Rattle.own_model.proofs.NatMapLemmas.{value_at}
use Rattle.region_map.specs.Regions.{Regions, AreSound, heap_found}
use Rattle.region_map.proofs.FoundLaws.{found_parts, found_none, held_once}
use Rattle.dataspace_core.specs.Store.{Store, part, Exists, space_at}
use Rattle.dataspace_core.specs.Share.{share_in}
use Rattle.dataspace_core.proofs.PartLaws.{part_of_payer, paid_in_part}
use Rattle.sliced_heap.specs.declared.heap.SlicedHeap.{SlicedHeap}
use Rattle.sliced_heap.specs.Sliced.{sliced_tag, block_regions}
use Rattle.sliced_heap.specs.Heap.{payer_of, share_at, IsSound, MapsMemory, HoldsAddress, NoneHolds}
use Rattle.sliced_heap.proofs.BlockLemmas.{is_whole}
use Rattle.sliced_heap.proofs.ShareLemmas.{is_block, shown_block}

-- ---- the block that the map finds

module _ (account : ℕ) (store : Store) (regions : Regions) (maps : MapsMemory store regions) (sound : AreSound regions) (address : ℕ) where
  -- no block holds an address that no region holds
  pub none_at : heap_found regions address ≡ None → NoneHolds (share_at account store regions) address
  none_at none s r h low high =
      let free = found_none regions address sound none s r (shown_block account store regions s r h).there in
      true≢false (sym (grind (arith, nat_tests)) ∙ free)

  module _ (start of tag : ℕ) (found : heap_found regions address ≡ Some (start, of, tag)) where
    -- the region that holds it is of a dataspace
    pub found_exists : Exists store of
    found_exists =
        let parts = found_parts regions address start of tag found in
        ap (λ k. is_some (get store.spaces k)) (sym parts.2) ∙ ap is_some (maps.shown start parts.0 parts.1).there

    -- a block that holds it is that region
    block_is : (s : ℕ) (r : Region) → get (block_regions (share_at account store regions)) s ≡ Some r → s ≤ address → address < s + r.pages * 4096 → s ≡ start
    block_is s r h low high =
        let parts = found_parts regions address start of tag found in
        held_once regions sound address s start r parts.0 (shown_block account store regions s r h).there parts.1 (grind (arith, nat_tests)) parts.4

    -- it is a block where it keeps the number of one, and the account pays for it
    pub found_held : (tag == sliced_tag && (space_at store of).payer == account) ≡ true → HoldsAddress (share_at account store regions) start of address
    found_held owns =
        let parts = found_parts regions address start of tag found in
        let is_tag : tag ≡ sliced_tag = grind (arith, nat_tests) in
        let pays : (space_at store of).payer ≡ account = grind (arith, nat_tests) in
        let has = ap (λ a. get (part a store).spaces of) (sym pays) ∙ part_of_payer store of found_exists in
        let held = parts.4 in
        record {
          pages = parts.0.pages;
          region = is_block account store regions start parts.0 _ parts.1 (parts.3 ∙ ap (λ t. Some t) is_tag) (ap (get (part account store).spaces) parts.2 ∙ has)
              ∙ ap (λ k. Some (record { of = k; pages = parts.0.pages })) parts.2;
          low = grind (arith, nat_tests);
          high = grind (arith, nat_tests);
          only = block_is;
        }

    -- else no block holds the address
    pub not_held : (tag == sliced_tag && (space_at store of).payer == account) ≡ false → NoneHolds (share_at account store regions) address
    not_held other s r h low high =
        let parts = found_parts regions address start of tag found in
        let block = shown_block account store regions s r h in
        let here = block_is s r h low high in
        let is_tag : tag ≡ sliced_tag = same_Some tag sliced_tag (sym parts.3 ∙ ap (get regions.tags) (sym here) ∙ block.tag) in
        let is_of : r.of ≡ of = ap (λ (x : Region). x.of) (same_Some r parts.0 (sym block.there ∙ ap (get regions.heap) here ∙ parts.1)) ∙ parts.2 in
        let bytes = value_at (part account store).spaces r.of block.paid in
        let pays : (space_at store of).payer ≡ account = ap (λ k. (space_at store k).payer) (sym is_of) ∙ (paid_in_part account r.of bytes.0 store bytes.1).payer in
        true≢false (grind (arith, nat_tests))

-- the dataspace of a block is there, as large as the block
pub block_space : {heap : SlicedHeap} {store : Store} {regions : Regions} → IsSound heap store regions → (start ds pages : ℕ) → get (block_regions (share_at (payer_of heap) store regions)) start ≡ Some (record { of = ds; pages = pages }) →
    (Exists store ds) × (length (space_at store ds).bytes ≡ pages * 4096)
unfolding share_in
block_space {heap} {store} {regions} sound start ds pages h =
    let w = is_whole (share_at (payer_of heap) store regions) heap.first sound.linked start _ h in
    let paid = paid_in_part (payer_of heap) ds w.bytes store w.there in
    (paid.exists, ap length paid.bytes_are ∙ w.whole)
