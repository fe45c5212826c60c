-- The heap of nodes ends: its chunks go, and the sliced blocks stay where they stand.
use Rattle.std.proofs.Common.{rules, ◌≡◌, ℕ, ◌+◌, Bool, true, false, cond, true≢false, length, Some, is_some, refl, sym, ap, subst, ◌∙◌, arith}
use Rattle.std.proofs.lemmas.Bool.{false_from_ne_true}
use Rattle.std.proofs.lemmas.Bool.Decides.{nat_tests}
use Rattle.std.proofs.lemmas.Option.{same_Some}
use Rattle.std.specs.Prelude.{None}
use Rattle.std.specs.FinMap.{get, len, empty, len-empty}
use Rattle.std.specs.Ordering.{nat_cmp}
use Rattle.own_model.specs.Account.{Account, credited}
use Rattle.own_model.specs.OwnHeap.{OwnHeap}
use Rattle.own_model.specs.Region.{Region}
use Rattle.own_model.specs.Use.{heap_count, heap_size}
use Rattle.own_model.proofs.NatMapLemmas.{same}
use Rattle.region_map.specs.Regions.{Regions}
use Rattle.dataspace_core.specs.Share.{KeepsShares}
use Rattle.dataspace_core.specs.Store.{Store, part, account_in}
use Rattle.heap_core.specs.declared.heap.Heap.{Heap}
use Rattle.heap_core.specs.Calls.{GivesAll, IsNoBlock, KeepsElsewhere}
use Rattle.heap_core.specs.Heap.{payer_of as heap_payer, heap_at, large_tag, IsSound as IsSoundHeap}
use Rattle.sliced_heap.specs.declared.heap.SlicedHeap.{SlicedHeap}
use Rattle.sliced_heap.specs.Heap.{payer_of, share_at}
use Rattle.sliced_heap.specs.Sliced.{sliced_tag, is_sliced_tag, block_regions}
use Rattle.server_frame.specs.Session.{HasBlocksAlone, holding_of}
use Rattle.session_nodes.specs.SoundHeaps.{HasSoundHeaps, KeepsSession, lent_regions}
use Rattle.session_nodes.proofs.LentLemmas.{lent_places, lent_elsewhere}
use Rattle.session_nodes.proofs.FurnishedLemmas.{ChangesNodes, nodes_are, nodes_kept, lent_no_chunk}
use Rattle.dataspace_core.proofs.PartLaws.{account_by}
use Rattle.sliced_heap.specs.Window.{IsNoHeapBlock}
use Rattle.sliced_heap.proofs.WindowLemmas.{block_is, shown_block_at}
use Rattle.heap_core.proofs.BesideLemmas.{no_chunk}
use Rattle.dataspace_core.proofs.ShareLaws.{each_shown}
use Rattle.sliced_heap.proofs.ShareLemmas.{shown_large, sliced_number}

-- where no region with another number than a heap's has moved, and none is new, the sliced blocks stay
module _ (account : ℕ) (old new : Store) (regions after : Regions) (kept : KeepsElsewhere regions after)
    (alike : (s : ℕ) (r : Region) → get regions.heap s ≡ Some r → get regions.tags s ≡ Some sliced_tag → is_some (get (part account new).spaces r.of) ≡ is_some (get (part account old).spaces r.of)) where
  not_sliced : (s : ℕ) → is_sliced_tag (get regions.tags s) ≡ false → is_sliced_tag (get after.tags s) ≡ false
  not_sliced s other = search (rules, false_from_ne_true, true≢false, sliced_number)

  shown_still : (s : ℕ) (b : Bool) → is_sliced_tag (get regions.tags s) ≡ b →
      shown_block_at (part account new).spaces (get after.tags s) (get after.heap s) ≡ shown_block_at (part account old).spaces (get regions.tags s) (get regions.heap s)
  shown_still s true is =
      let tag = sliced_number _ is in
      let stays = kept.stays s sliced_tag tag (omega arith) in
      (λ i. shown_block_at (part account new).spaces (stays.1 i) (stays.0 i))
      ∙ ap (λ o. cond (is_sliced_tag (get regions.tags s)) o None) (each_shown (part account old).spaces (part account new).spaces (get regions.heap s) (λ r there. alike s r there tag))
  shown_still s false other = grind (arith, nat_tests, not_sliced)

  blocks_kept : block_regions (share_at account new after) ≡ block_regions (share_at account old regions)
  blocks_kept = same _ _ (λ s. block_is account new after s ∙ shown_still s _ refl ∙ sym (block_is account old regions s))

module _ {heap later : Heap} {sliced : SlicedHeap} {store new : Store} {regions after : Regions} (f : HasSoundHeaps heap sliced store regions) (given : GivesAll heap later store new regions after)
    (sound : IsSoundHeap later new after) (others : KeepsShares (heap_payer heap) store new regions.heap regions.tags after.heap after.tags) (payer : heap_payer later ≡ heap_payer heap) where
  -- what no chunk and no large block shows is neither
  no_block : (k : ℕ) → IsNoHeapBlock regions k → IsNoBlock heap (share_at (heap_payer heap) store regions) k
  no_block k none = (
    no_chunk heap store regions f.sound k none,
    λ s r large. let is = shown_large (heap_payer heap) store regions s r large in none s large_tag r is.there is.tag (omega arith),
  )

  -- so is what a sliced block shows
  sliced_alone : (s : ℕ) (r : Region) → get regions.heap s ≡ Some r → get regions.tags s ≡ Some sliced_tag → IsNoHeapBlock regions r.of
  sliced_alone s r there tag t k q other number low e = grind (arith, nat_tests, same_Some)

  stands : block_regions (share_at (heap_payer heap) new after) ≡ block_regions (share_at (heap_payer heap) store regions)
  stands = blocks_kept (heap_payer heap) store new regions after given.kept (λ s r there tag. ap is_some (given.spaces r.of (no_block r.of (sliced_alone s r there tag))))

  -- and what is lent
  lent : lent_regions (share_at (heap_payer heap) new after) ≡ lent_regions (share_at (heap_payer heap) store regions)
  lent = lent_places (heap_payer heap) store new regions after (lent_elsewhere regions after given.kept) (λ s r there tag. ap is_some (given.spaces r.of (no_block r.of (lent_no_chunk f s r there tag))))

  -- there was no large block
  none_large : (heap_at heap store regions).large ≡ empty
  none_large = ap (λ (h : OwnHeap). h.large) (sym (nodes_are heap sliced store regions f.payer)) ∙ f.nodes.no_large

  count_is : heap_count (heap_at heap store regions) ≡ length (heap_at heap store regions).shape.chunks
  count_is = let none = ap len none_large ∙ len-empty nat_cmp ℕ in omega (arith, none)

  credit : account_in new (heap_payer heap) ≡ credited (account_in store (heap_payer heap)) (heap_size (heap_at heap store regions)) (heap_count (heap_at heap store regions))
  credit = account_by (heap_payer heap) new _ given.charge

  pays : (account_in store (heap_payer heap)).caps_used ≡ len (part (heap_payer heap) store).spaces + 1
  pays = subst (λ x. (account_in store x).caps_used ≡ len (part x store).spaces + 1) (sym f.payer) f.session.pays

  no_chunks_left : length (heap_at later new after).shape.chunks ≡ 0
  no_chunks_left = ap (λ (h : OwnHeap). length h.shape.chunks) given.value

  changes : ChangesNodes (heap_payer heap) heap store regions later new after
  changes = grind (arith, nat_tests, stands, lent, no_block, credit, pays, none_large, count_is, no_chunks_left)

  -- the session is kept
  pub end_keeps : KeepsSession sliced later sliced store new regions after
  end_keeps = nodes_kept f (subst (λ x. ChangesNodes x heap store regions later new after) f.payer changes)

  -- and has nothing but sliced blocks, where nothing is lent
  pub end_alone : lent_regions (holding_of sliced store regions) ≡ empty → HasBlocksAlone (holding_of sliced new after)
  end_alone none =
      let all = end_keeps.stays.furnished.nodes.all in
      let chunks = ap (λ (h : OwnHeap). length h.shape.chunks) (nodes_are later sliced new after end_keeps.stays.furnished.payer) ∙ no_chunks_left in
      let lent = ap len (end_keeps.lent.stands ∙ none) ∙ len-empty nat_cmp Region in
      omega (arith, all, chunks, lent)

  -- its limits stay
  pub end_ram : (account_in new (payer_of sliced)).ram_limit ≡ (account_in store (payer_of sliced)).ram_limit
  end_ram = subst (λ x. (account_in new x).ram_limit ≡ (account_in store x).ram_limit) f.payer (ap (λ (x : Account). x.ram_limit) credit)

  pub end_caps : (account_in new (payer_of sliced)).caps_limit ≡ (account_in store (payer_of sliced)).caps_limit
  end_caps = subst (λ x. (account_in new x).caps_limit ≡ (account_in store x).caps_limit) f.payer (ap (λ (x : Account). x.caps_limit) credit)
