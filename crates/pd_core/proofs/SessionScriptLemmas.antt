-- A script over the memory after a call of a session, which changes the limits of its account, two of its selectors and the
-- regions of one.
use Rattle.std.proofs.Common.{◌≡◌, ℕ, List, Some, is_some, IsSome, length, refl, sym, ap, subst, ◌∙◌}
use Rattle.std.specs.Prelude.{◌⊎◌, Option}
use Rattle.std.specs.FinMap.{get}
use Rattle.own_model.specs.Account.{Account}
use Rattle.own_model.specs.NatMap.{NatMap}
use Rattle.own_model.specs.Region.{Region}
use Rattle.own_model.proofs.NatMapLemmas.{value_at}
use Rattle.cap_space.specs.Space.{Space}
use Rattle.region_map.specs.Regions.{Regions}
use Rattle.dataspace_core.specs.Store.{Store, Space as ASpace, Part, part, ram_limits_in}
use Rattle.dataspace_core.specs.Share.{IsShown, share_in}
use Rattle.dataspace_core.proofs.PartLaws.{open_in_part, paid_in_part}
use Rattle.dataspace_core.proofs.PartLemmas.{space_at-some}
use Rattle.dataspace_core.proofs.WindowLaws.{shown_of_part}
use Rattle.heap_core.specs.declared.heap.Heap.{Heap}
use Rattle.heap_core.specs.Heap.{payer_of as heap_payer, heap_in, heap_at, IsLaid, IsSound as IsSoundHeap}
use Rattle.heap_core.specs.Theorems.{block_region, IsMapOf}
use Rattle.sliced_heap.specs.Sliced.{block_regions}
use Rattle.sliced_heap.specs.Heap.{payer_of as sliced_payer, blocks_at, MapsMemory}
use Rattle.sliced_heap.specs.Theorems.{HeapStays}
use Rattle.sliced_heap.proofs.HeapLaws.{heap_stays_among}
use Rattle.pd_core.specs.Own.{Sessions, own_of, own_at, own_heap_at, sliced_at, part_at, lent_in}
use Rattle.pd_core.specs.Sound.{IsScript, AreOthers, IsLawful, IsSoundScript, HasHeaps}
use Rattle.pd_core.specs.declared.script.Script.{Script}
use Rattle.pd_core.proofs.SessionOwnLemmas.{TurnsTables, AreCounted, script_with}

-- ---- the account's numbers are no matter to what stands in the heap window

module _ (q : Part) (account : Option Account) (window : NatMap Region) (tags : NatMap ℕ) where
  -- the part with other numbers
  abbrev other : Part
  other = record q { account = account }

  pub heap_still : (heap : Heap) → heap_in heap (share_in other window tags) ≡ heap_in heap (share_in q window tags)
  unfolding heap_in share_in
  heap_still heap = refl

  pub laid_still : (heap : Heap) → IsLaid heap (share_in q window tags) → IsLaid heap (share_in other window tags)
  unfolding share_in
  laid_still heap laid = record {
    fit = laid.fit;
    count = laid.count;
    few = laid.few;
    chunks = λ k within.
        let its = laid.chunks k within in
        record { bytes = its.bytes; pages = its.pages; there = its.there; numbers = its.numbers; long = its.long; some = its.some; whole = its.whole; region = its.region; tag = its.tag };
    all = laid.all;
    large = laid.large;
    large_count = laid.large_count;
    large_stands = λ start region there.
        let its = laid.large_stands start region there in
        record { bytes = its.bytes; there = its.there; whole = its.whole; least = its.least };
    growth_some = laid.growth_some;
    growth_most = laid.growth_most;
  }

  pub stands_still : block_regions (share_in other window tags) ≡ block_regions (share_in q window tags)
  unfolding share_in
  stands_still = refl

  pub all_still : (start : ℕ) (region : Region) → ((get (block_regions (share_in q window tags)) start ≡ Some region) ⊎ IsSome (block_region (share_in q window tags) start)) →
      (get (block_regions (share_in other window tags)) start ≡ Some region) ⊎ IsSome (block_region (share_in other window tags) start)
  unfolding share_in
  all_still start region h = h

-- ---- the script's heaps stay

module _ (store store' : Store) (script : Script) (account : Option Account) (sound : IsSoundScript store script) (own : part script.account.0 store' ≡ record (part_at store script) { account = account }) (there : IsSome account)
    (limits : ram_limits_in store' ≡ ram_limits_in store) where
  -- its dataspaces are what they were
  spaces : (part script.account.0 store').spaces ≡ (part_at store script).spaces
  spaces = ap (λ (q : Part). q.spaces) own

  still_shown : (start : ℕ) (region : Region) → get script.regions.heap start ≡ Some region → IsShown store'.spaces region
  still_shown start region at =
      let was = sound.heaps.sliced.maps.shown start region at in
      let has = value_at (part_at store script).spaces region.of (sound.own.blocks.held start region at) in
      let paid = paid_in_part script.account.0 region.of has.0 store has.1 in
      shown_of_part script.account.0 store' region has.0 (ap (λ (m : NatMap (List ℕ)). get m region.of) spaces ∙ has.1) was.some
      (ap length (sym paid.bytes_are) ∙ ap (λ (s : ASpace). length s.bytes) (space_at-some store region.of was.space was.there) ∙ was.whole)

  maps : MapsMemory store' script.regions
  maps = let was = sound.heaps.sliced.maps in record { pages = was.pages ∙ sym limits; most = was.most; shown = still_shown; once = was.once }

  window : IsMapOf store' script.regions
  window = let was = sound.heaps.heap.window in record { size = was.size ∙ sym limits; few = was.few; lie = was.lie; most_is = was.most_is; shown_whole = still_shown; once = was.once }

  -- the part of a heap's account
  own_of_payer : (payer : ℕ) → payer ≡ script.account.0 → part payer store' ≡ record (part payer store) { account = account }
  own_of_payer payer is = subst (λ k. part k store' ≡ record (part k store) { account = account }) (sym is) own

  heap_own : part (heap_payer script.heap) store' ≡ record (part (heap_payer script.heap) store) { account = account }
  heap_own = own_of_payer (heap_payer script.heap) sound.heaps.heap_pays

  sliced_own : part (sliced_payer script.sliced) store' ≡ record (part (sliced_payer script.sliced) store) { account = account }
  sliced_own = own_of_payer (sliced_payer script.sliced) sound.heaps.sliced_pays

  pub same_heap : heap_at script.heap store' script.regions ≡ heap_at script.heap store script.regions
  same_heap =
      ap (λ q. heap_in script.heap (share_in q script.regions.heap script.regions.tags)) heap_own
      ∙ heap_still (part (heap_payer script.heap) store) account script.regions.heap script.regions.tags script.heap

  -- with other capabilities and user regions
  module _ (space' : Space) (user' : NatMap Region) where
    abbrev regions' : Regions
    regions' = record script.regions { user = user' }

    -- the script after the call
    abbrev script' : Script
    script' = record script { caps = space'; regions = record script.regions { user = user' } }

    maps' : MapsMemory store' regions'
    maps' = record { pages = maps.pages; most = maps.most; shown = maps.shown; once = maps.once }

    window' : IsMapOf store' regions'
    window' = record { size = window.size; few = window.few; lie = window.lie; most_is = window.most_is; shown_whole = window.shown_whole; once = window.once }

    heap_sound : IsSoundHeap script.heap store' regions'
    heap_sound = record {
      opens = open_in_part (heap_payer script.heap) store' (ap (λ (q : Part). is_some q.account) heap_own ∙ there);
      window = window';
      laid = subst (λ q. IsLaid script.heap (share_in q script.regions.heap script.regions.tags)) (sym heap_own)
          (laid_still (part (heap_payer script.heap) store) account script.regions.heap script.regions.tags script.heap sound.heaps.heap.laid);
    }

    sliced_stays : HeapStays script.sliced store store' script.regions regions'
    sliced_stays =
        heap_stays_among script.sliced store store' script.regions regions' sound.heaps.sliced maps'
        (open_in_part (sliced_payer script.sliced) store' (ap (λ (q : Part). is_some q.account) sliced_own ∙ there))
        (ap (λ q. block_regions (share_in q script.regions.heap script.regions.tags)) sliced_own
        ∙ stands_still (part (sliced_payer script.sliced) store) account script.regions.heap script.regions.tags)
        (λ s r _. ap (λ (q : Part). get q.spaces r.of) sliced_own)

    pub same_sliced : sliced_at store' script' ≡ sliced_at store script
    same_sliced = subst (λ a. blocks_at a store' regions' ≡ blocks_at a store script.regions) sound.heaps.sliced_pays sliced_stays.blocks

    pub heaps_stay : HasHeaps store' script'
    heaps_stay = record {
      heap = heap_sound;
      sliced = sliced_stays.sound;
      heap_pays = sound.heaps.heap_pays;
      sliced_pays = sound.heaps.sliced_pays;
      all = λ start region at. subst
          (λ q. (get (block_regions (share_in q script.regions.heap script.regions.tags)) start ≡ Some region) ⊎ IsSome (block_region (share_in q script.regions.heap script.regions.tags) start))
          (sym own) (all_still (part_at store script) account script.regions.heap script.regions.tags start region (sound.heaps.all start region at));
    }

    -- its own state is read out of the heaps that it had
    pub own_still : (S : Sessions) → own_at S store' script' ≡ own_of (lent_in store') S (part script.account.0 store') space'.caps user' (own_heap_at store script) (sliced_at store script)
    own_still S i = own_of (lent_in store') S (part script.account.0 store') space'.caps user' (same_heap i) (same_sliced i)

    -- and it is sound
    pub sound_still : {q k : ℕ} {lent lent' : Option ℕ} → TurnsTables script.caps.caps space'.caps script.regions.user user' q k lent lent' → AreOthers script.account.0 store' space'.caps →
        AreCounted (part_at store script) (part script.account.0 store') script.caps space' script.regions →
        ((S : Sessions) → IsLawful (own_of (lent_in store') S (part script.account.0 store') space'.caps user' (own_heap_at store script) (sliced_at store script))) → IsSoundScript store' script'
    sound_still turns others counted lawful = record {
      own = subst (λ h. IsScript (lent_in store') (part script.account.0 store') space' regions' h (sliced_at store' script')) (sym same_heap)
          (subst (IsScript (lent_in store') (part script.account.0 store') space' regions' (own_heap_at store script)) (sym same_sliced)
          (script_with (part_at store script) (part script.account.0 store') script.caps space' script.regions user' (own_heap_at store script) (sliced_at store script) sound.own turns counted lawful));
      lent = others;
      heaps = heaps_stay;
    }
