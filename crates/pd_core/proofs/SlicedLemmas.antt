-- A script's calls on its sliced blocks, and calls that change its heaps alone.
use Rattle.std.proofs.Common.{◌≡◌, ◌≢◌, ℕ, ◌+◌, ◌-◌, ◌*◌, ◌/◌, ◌≤◌, List, [], Some, None, is_some, subst, refl, sym, ap, ◌∙◌, arith, inl, inr}
use Rattle.std.proofs.lemmas.Option.{none-some, same_Some}
use Rattle.std.specs.Prelude.{◌⊎◌, Option, IsSome, if◌then◌else◌}
use Rattle.std.specs.Option.{option_map, unwrap_or}
use Rattle.std.specs.FinMap.{get, insert, remove, len}
use Rattle.trade_base.specs.declared.id.DsId.{DsId}
use Rattle.trade_base.specs.declared.refusal.Refusal.{Refusal}
use Rattle.trade_base.specs.declared.refusal.Refusal.TheVariants.{PageFault}
use Rattle.own_model.specs.Account.{Account, opened, charged, credited}
use Rattle.own_model.specs.Call.{Call}
use Rattle.own_model.specs.Call.Call.{Snew, Sdel}
use Rattle.own_model.specs.HeapWindow.{heap_low, heap_high, heap_gap, largest_machine}
use Rattle.own_model.specs.NatMap.{joined, total}
use Rattle.own_model.specs.OwnHeap.{ranges_of_heap}
use Rattle.own_model.specs.OwnState.{OwnState, zeros}
use Rattle.own_model.specs.OwnStep.{Outcome, refused, unless, sliced_in, sliced_freed, own_heap_gap, script_step}
use Rattle.own_model.specs.Region.{Region}
use Rattle.own_model.specs.Reply.{Reply}
use Rattle.own_model.specs.Reply.Reply.{Attached, Done}
use Rattle.own_model.specs.Sliced.{sliced_header, sliced_size, sliced_refusal, block_size, block_pages, ranges_of_blocks}
use Rattle.own_model.specs.Sound.{LieApart}
use Rattle.own_model.proofs.HeapRangeLemmas.{new_page, range_at}
use Rattle.own_model.proofs.NatMapLemmas.{after_insert, before_remove, apart_from_free, get-insert_same, get-insert_other, get-remove_same, get-remove_other, some_of, mapped_from}
use Rattle.own_model.proofs.RegionLemmas.{first_gap_alike}
use Rattle.region_map.specs.Regions.{Regions}
use Rattle.cap_space.specs.declared.cap.Cap.TheVariants.{Dataspace}
use Rattle.dataspace_core.specs.Store.{Store, part, account_in, account_of, space_at, root_in, parents_in, room_in, IsOpenIn}
use Rattle.dataspace_core.specs.Share.{Share, share_in}
use Rattle.dataspace_core.proofs.PartLaws.{account_of-part, part_open}
use Rattle.dataspace_core.proofs.PartLemmas.{part-fresh}
use Rattle.heap_core.specs.declared.heap.Heap.{Heap}
use Rattle.heap_core.specs.Heap.{heap_at}
use Rattle.heap_core.specs.Theorems.{block_region, HeapStays}
use Rattle.sliced_heap.specs.declared.heap.SlicedHeap.{SlicedHeap}
use Rattle.sliced_heap.specs.Heap.{payer_of, share_at, blocks_at, IsSound as IsSoundSliced, KeepsOthers, TakesBlock, GivesBlock, IsNoBlock, free_refusal}
use Rattle.sliced_heap.specs.Sliced.{sliced_tag, block_regions}
use Rattle.sliced_heap.proofs.ShareLemmas.{shown_block}
use Rattle.sliced_heap.proofs.HeapLaws.{blocks_are_regions}
use Rattle.pd_core.specs.Own.{Sessions, lent_in, own_at, own_of, part_at, own_heap_at, sliced_at}
use Rattle.pd_core.specs.Sound.{rpc_weight, AreBlocks, HasHeaps, IsSoundScript, OthersStay}
use Rattle.pd_core.specs.declared.script.Script.{Script}
use Rattle.sliced_heap.proofs.BesideLemmas.{map_of, standing, whole_standing, sliced_no_block, stands_beside_more, stands_beside_less, ranges_alike, gap_is_free, lie_with, lie_without}
use Rattle.heap_core.proofs.StayLemmas.{heap_stays}
use Rattle.heap_core.proofs.BlockRangeLemmas.{blocks_are_regions as heap_blocks_are_regions}
use Rattle.pd_core.proofs.LentLemmas.{LendAlike, LendersStay, own_lent, script_lent, others_still, lent_still}
use Rattle.pd_core.proofs.ScriptOwnLemmas.{slices}
use Rattle.pd_core.specs.Does.{Does}
use Rattle.pd_core.proofs.ScriptLemmas.{at_heap, block_there, is_region}

-- where no payload starts, none goes
none_freed : (address : ℕ) (refusal : Refusal) (b : OwnState) (o : Option (List ℕ)) → Some refusal ≡ (if is_some o then None else Some PageFault) → refused b refusal ≡ sliced_freed address o b
none_freed address refusal b None is = let e : refusal ≡ PageFault = cc in ap (refused b) e
none_freed address refusal b (Some payload) is = cc

-- a call changes the heaps, the account's use and nothing else of a script
pub record ChangesHeaps (store : Store) (script : Script) (store' : Store) (after : Regions) (heap' : Heap) (sliced' : SlicedHeap) : Type 0 where
  pub has : HasHeaps store' (record script { regions = after; heap = heap'; sliced = sliced' })
  pub blocks : AreBlocks (part script.account.0 store') script.caps.caps after.heap
  pub still : (selector : ℕ) (ds : DsId) → get script.caps.caps selector ≡ Some (Dataspace ds) → get (part script.account.0 store').spaces ds.0 ≡ get (part_at store script).spaces ds.0
  pub rest : after ≡ record script.regions { heap = after.heap; tags = after.tags }
  pub ram_limit : (account_of (part script.account.0 store')).ram_limit ≡ (account_of (part_at store script)).ram_limit
  pub caps_limit : (account_of (part script.account.0 store')).caps_limit ≡ (account_of (part_at store script)).caps_limit
  pub spare : len (part script.account.0 store').spaces + total rpc_weight script.caps.caps ≤ (account_of (part script.account.0 store')).caps_used
  pub others : OthersStay script.account.0 store store'
  pub root : root_in store' ≡ root_in store
  pub parents : parents_in store' ≡ parents_in store
  pub room : room_in store' ≡ room_in store

-- a call of the sliced heap leaves the other heap
pub record LeavesHeap (store : Store) (script : Script) (store' : Store) (after : Regions) : Type 0 where
  -- the regions still lie apart
  pub lie : LieApart heap_low (heap_high script.regions.pages) after.heap
  -- chunks and large blocks stand where they stood
  pub beside : (s : ℕ) → standing after.heap after.tags s ≡ standing script.regions.heap script.regions.tags s
  -- other dataspaces stay
  pub keeps : (k : ℕ) → IsNoBlock (share_at script.account.0 store script.regions) k → IsSome (get (part_at store script).spaces k) → get (part script.account.0 store').spaces k ≡ get (part_at store script).spaces k
  -- a heap region is a sliced block's, or was there and is one of the heap's
  pub either : (s : ℕ) (r : Region) → get after.heap s ≡ Some r →
      (get (block_regions (share_at script.account.0 store' after)) s ≡ Some r) ⊎ ((get script.regions.heap s ≡ Some r) × IsSome (block_region (share_at script.account.0 store script.regions) s))

-- and changes the sliced blocks and what is paid for them
record ChangesBlocks (store : Store) (script : Script) (store' : Store) (after : Regions) : Type 0 where
  pub leaves : LeavesHeap store script store' after
  pub unnamed : (start selector : ℕ) (region : Region) (ds : DsId) → get after.heap start ≡ Some region → get script.caps.caps selector ≡ Some (Dataspace ds) → ds.0 ≢ region.of
  pub ram_limit : (account_of (part script.account.0 store')).ram_limit ≡ (account_of (part_at store script)).ram_limit
  pub caps_limit : (account_of (part script.account.0 store')).caps_limit ≡ (account_of (part_at store script)).caps_limit
  pub spare : len (part script.account.0 store').spaces + total rpc_weight script.caps.caps ≤ (account_of (part script.account.0 store')).caps_used

module _ (store : Store) (script : Script) (sound : IsSoundScript store script) where
  -- such a call finishes
  pub finishes_heaps : {store' : Store} {after : Regions} {heap' : Heap} {sliced' : SlicedHeap} → ChangesHeaps store script store' after heap' sliced' → {call : Call} {reply : Reply} →
      ((sessions : Sessions) → script_step call (own_at sessions store script) ≡ record {
        reply = reply;
        lines = [];
        next = record (own_at sessions store script) { account = account_of (part script.account.0 store'); heap = heap_at heap' store' after; sliced = blocks_at script.account.0 store' after };
      }) → Does call reply store script store' (record script { regions = after; heap = heap'; sliced = sliced' })
  finishes_heaps {store'} {after} {heap'} {sliced'} changes {call} {reply} is =
      let account = script.account.0 in
      let p' = part account store' in
      let has = changes.has in
      let lenders : LendersStay store store' script.caps.caps = λ s k key names. changes.others (space_at store key).payer (sound.lent s k key names).apart in
      let seen : LendAlike (lent_in store) (lent_in store') script.caps.caps = lent_still account store store' script.caps.caps sound.lent lenders in
      let user : after.user ≡ script.regions.user = ap (λ (r : Regions). r.user) changes.rest in
      let most : after.most ≡ script.regions.most = ap (λ (r : Regions). r.most) changes.rest in
      let pages : after.pages ≡ script.regions.pages = ap (λ (r : Regions). r.pages) changes.rest in
      let is_open = part_open account store' (subst (IsOpenIn store') has.sliced_pays has.sliced.opens) in
      let made = slices (part_at store script) script.caps script.regions (own_heap_at store script) (sliced_at store script) sound.own call p' after (heap_at heap' store' after) (blocks_at account store' after) reply
      changes.still user most pages is_open changes.ram_limit changes.caps_limit changes.spare changes.blocks is in record {
        outcome = λ sessions ready. ap {B = Outcome} (λ s. record { reply = reply; lines = []; next = s }) (own_lent (lent_in store) (lent_in store') p' script.caps.caps seen after.user (heap_at heap' store' after) (blocks_at account store' after) sessions) ∙ made.outcome sessions ready;
        keeps = record {
          sound = record {
            own = script_lent seen made.script;
            lent = others_still account store store' script.caps.caps sound.lent lenders;
            heaps = has;
          };
          account = refl;
          reserve = refl;
          ram_limit = changes.ram_limit;
          caps_limit = changes.caps_limit;
          places = refl;
          sessions = λ selector. refl;
          buffers = λ selector. refl;
          session_count = refl;
          root = changes.root;
          parents = changes.parents;
          room = changes.room;
          limits = sym has.sliced.maps.pages ∙ ap (λ n. n * 4096) pages ∙ sound.heaps.sliced.maps.pages;
        };
        others = changes.others;
      }

  -- no selector names a sliced block
  pub no_block : (selector : ℕ) (ds : DsId) → get script.caps.caps selector ≡ Some (Dataspace ds) → IsNoBlock (share_at script.account.0 store script.regions) ds.0
  no_block selector ds names start region at e = sound.own.blocks.unnamed start selector region ds (is_region store script sound start region at) names (sym e)

  -- nor is a chunk's or a large block's dataspace one
  heap_apart : (s k : ℕ) (r : Region) → block_region (share_at script.account.0 store script.regions) s ≡ Some (r, k) → IsNoBlock (share_at script.account.0 store script.regions) r.of
  heap_apart s k r at start region sliced e =
      let window = sound.heaps.heap.window in
      let same : start ≡ s = window.once start s region r (is_region store script sound start region sliced) (block_there store script sound s (r, k) at) e in
      let share = share_at script.account.0 store script.regions in
      absurd (none-some (r, k) (sym (sliced_no_block share start region sliced) ∙ ap (block_region share) same ∙ at))

  -- sliced blocks range where their regions stand
  same_ranges : (s : ℕ) → get (ranges_of_blocks (sliced_at store script)) s ≡ option_map (λ (r : Region). record { of = 0; pages = r.pages }) (get (block_regions (share_at script.account.0 store script.regions)) s)
  same_ranges = subst (λ a. (s : ℕ) → get (ranges_of_blocks (blocks_at a store script.regions)) s ≡ option_map (λ (r : Region). record { of = 0; pages = r.pages }) (get (block_regions (share_at a store script.regions)) s)) sound.heaps.sliced_pays
      (blocks_are_regions script.sliced store script.regions sound.heaps.sliced)

  -- the first gap of the own state's heap window is the map's
  pub same_gap : (sessions : Sessions) (bytes : ℕ) → own_heap_gap bytes (own_at sessions store script) ≡ heap_gap largest_machine script.regions.heap (bytes / 4096)
  unfolding own_of
  same_gap sessions bytes =
      let account = script.account.0 in
      let blocks : (s : ℕ) → get (ranges_of_heap (own_heap_at store script)) s ≡ option_map (λ (e : Region × ℕ). record { of = 0; pages = e.0.pages }) (block_region (share_at account store script.regions) s)
      = subst (λ a. (s : ℕ) → get (ranges_of_heap (own_heap_at store script)) s ≡ option_map (λ (e : Region × ℕ). record { of = 0; pages = e.0.pages }) (block_region (share_at a store script.regions) s)) sound.heaps.heap_pays
      (heap_blocks_are_regions script.heap store script.regions sound.heaps.heap) in
      first_gap_alike (joined (ranges_of_blocks (sliced_at store script)) (ranges_of_heap (own_heap_at store script))) script.regions.heap
      (ranges_alike (block_regions (share_at account store script.regions)) (share_at account store script.regions) script.regions.heap (ranges_of_blocks (sliced_at store script)) (ranges_of_heap (own_heap_at store script)) same_ranges blocks
      (is_region store script sound) (block_there store script sound) sound.heaps.all) heap_low (heap_high largest_machine) (bytes / 4096)

  module _ {store' : Store} {after : Regions} {sliced' : SlicedHeap} (sound' : IsSoundSliced sliced' store' after) (pays : payer_of sliced' ≡ payer_of script.sliced)
      (others : KeepsOthers (payer_of script.sliced) store store' script.regions after) where
    -- other accounts keep their parts
    pub parts_stay : OthersStay script.account.0 store store'
    unfolding share_in
    parts_stay other apart = ap (λ (s : Share). s.part) (others.shares other (λ e. apart (e ∙ sound.heaps.sliced_pays)))

    module _ (leaves : LeavesHeap store script store' after) where
      -- the dataspace of a chunk or a large block stays
      block_stays : (s k : ℕ) (r : Region) → block_region (share_at script.account.0 store script.regions) s ≡ Some (r, k) → get (part script.account.0 store').spaces r.of ≡ get (part_at store script).spaces r.of
      block_stays s k r at = leaves.keeps r.of (heap_apart s k r at) (sound.own.blocks.held s r (block_there store script sound s (r, k) at))

      -- each heap region is still of the account's
      held_after : (s : ℕ) (r : Region) → get after.heap s ≡ Some r → IsSome (get (part script.account.0 store').spaces r.of)
      held_after s r at = elim (leaves.either s r at) [
        | inl one ↦ (shown_block script.account.0 store' after s r one).paid
        | inr old ↦
            let e = some_of (block_region (share_at script.account.0 store script.regions) s) old.1 in
            let there = block_there store script sound s e.0 e.1 in
            let same : r ≡ e.0.0 = same_Some r e.0.0 (sym old.0 ∙ there) in
            ap (λ (q : Region). is_some (get (part script.account.0 store').spaces q.of)) same ∙ ap is_some (block_stays s e.0.1 e.0.0 e.1) ∙ sound.own.blocks.held s e.0.0 there
      ]

      -- chunks and large blocks stand where they stood
      stand_after : (s : ℕ) → block_region (share_at script.account.0 store' after) s ≡ block_region (share_at script.account.0 store script.regions) s
      stand_after s =
          whole_standing (part script.account.0 store') after.heap after.tags held_after s ∙ leaves.beside s
          ∙ sym (whole_standing (part_at store script) script.regions.heap script.regions.tags sound.own.blocks.held s)

      -- so the heap stays
      pub heap_beside : HeapStays script.heap store store' script.regions after
      heap_beside =
          let pages : after.pages ≡ script.regions.pages = ap (λ (r : Regions). r.pages) others.rest in
          let window = sound.heaps.heap.window in
          heap_stays script.heap store store' script.regions after sound.heaps.heap
          (map_of sound'.maps (rw pages window.few) (rw pages leaves.lie))
          (at_heap store script sound (IsOpenIn store') (subst (IsOpenIn store') (pays ∙ sound.heaps.sliced_pays) sound'.opens))
          (at_heap store script sound (λ a. (s : ℕ) → block_region (share_at a store' after) s ≡ block_region (share_at a store script.regions) s) stand_after)
          (at_heap store script sound (λ a. (s k : ℕ) (r : Region) → block_region (share_at a store script.regions) s ≡ Some (r, k) → get (part a store').spaces r.of ≡ get (part a store).spaces r.of) block_stays)

    -- where sliced blocks change, the heaps do, and nothing else of the script
    blocks_change : ChangesBlocks store script store' after → ChangesHeaps store script store' after script.heap sliced'
    blocks_change changed =
        let leaves = changed.leaves in record {
          has = record {
            heap = (heap_beside leaves).sound;
            sliced = sound';
            heap_pays = sound.heaps.heap_pays;
            sliced_pays = pays ∙ sound.heaps.sliced_pays;
            all = λ s r at. elim (leaves.either s r at) [
              | inl one ↦ inl one
              | inr old ↦ inr (ap is_some (stand_after leaves s) ∙ old.1)
            ];
          };
          blocks = record { held = held_after leaves; unnamed = changed.unnamed };
          still = λ q d names. leaves.keeps d.0 (no_block q d names) (sound.own.named.there q d names);
          rest = others.rest;
          ram_limit = changed.ram_limit;
          caps_limit = changed.caps_limit;
          spare = changed.spare;
          others = parts_stay;
          root = others.root;
          parents = others.parents;
          room = others.room;
        }

    -- ---- snew

    module _ (n address : ℕ) (takes : TakesBlock (payer_of script.sliced) n address store store' script.regions after) where
      -- the block is the script's
      taken : TakesBlock script.account.0 n address store store' script.regions after
      taken = subst (λ a. TakesBlock a n address store store' script.regions after) sound.heaps.sliced_pays takes

      -- its region is the only new one
      abbrev more : Region
      more = record { of = taken.ds; pages = sliced_size n / 4096 }

      after_more : after.heap ≡ insert script.regions.heap taken.start more
      after_more = ap (λ (r : Regions). r.heap) taken.attached

      grown : (s : ℕ) (r : Region) → get after.heap s ≡ Some r → ((s ≡ taken.start) × (r ≡ more)) ⊎ ((s ≢ taken.start) × (get script.regions.heap s ≡ Some r))
      grown s r at = after_insert script.regions.heap taken.start more s r (sym (ap (λ m. get m s) after_more) ∙ at)

      -- its dataspace is new
      fresh : get (part_at store script).spaces taken.ds ≡ None
      fresh = part-fresh store script.account.0 taken.ds taken.fresh

      -- the account is charged
      charge : account_of (part script.account.0 store') ≡ charged (account_of (part_at store script)) (sliced_size n) 1
      charge = ap (λ (o : Option Account). unwrap_or o (opened 0 0)) taken.charge ∙ ap (λ a. charged a (sliced_size n) 1) (sym (account_of-part script.account.0 store))

      -- sliced blocks change, by one more
      one_more : ChangesBlocks store script store' after
      one_more =
          let heap = script.regions.heap in
          let free : get heap taken.start ≡ None = gap_is_free script.regions.pages heap (sliced_size n / 4096) taken.start (new_page n) sound.heaps.heap.window.lie taken.gap in
          let blocks = block_regions (share_at script.account.0 store script.regions) in record {
            leaves = record {
              lie = rw after_more (lie_with script.regions.pages heap taken.ds (sliced_size n / 4096) taken.start (new_page n) sound.heaps.heap.window.lie taken.gap);
              beside = λ s.
                  (λ i. standing (after_more i) (ap (λ (r : Regions). r.tags) taken.attached i) s)
                  ∙ stands_beside_more heap script.regions.tags taken.start more free s;
              keeps = λ k none held. taken.dataspaces k (apart_from_free (part_at store script).spaces taken.ds k fresh held) none;
              either = λ s r at. elim (grown s r at) [
                | inl here ↦ inl (ap (λ m. get m s) taken.stands ∙ get-insert_same blocks taken.start more s here.0 ∙ ap (λ x. Some x) (sym here.1))
                | inr old ↦ elim (sound.heaps.all s r old.1) [
                  | inl one ↦ inl (ap (λ m. get m s) taken.stands ∙ get-insert_other blocks taken.start more s old.0 ∙ one)
                  | inr one ↦ inr (old.1, one)
                ]
              ];
            };
            unnamed = λ start q r d there names. elim (grown start r there) [
              | inl here ↦ λ e. apart_from_free (part_at store script).spaces taken.ds d.0 fresh (sound.own.named.there q d names) (e ∙ ap (λ (x : Region). x.of) here.1)
              | inr old ↦ sound.own.blocks.unnamed start q r d old.1 names
            ];
            ram_limit = ap (λ (a : Account). a.ram_limit) charge;
            caps_limit = ap (λ (a : Account). a.caps_limit) charge;
            spare = omega (arith, taken.count, sound.own.paid.spare, ap (λ (a : Account). a.caps_used) charge);
          }

      -- a block that the sliced heap takes is the model's
      pub snew_finishes : None ≡ sliced_refusal n (account_in store (payer_of script.sliced)) → Does (Snew n) (Attached address) store script store' (record script { regions = after; sliced = sliced' })
      unfolding own_of part
      snew_finishes accepted =
          let fits : sliced_refusal n (account_of (part_at store script)) ≡ None = ap (λ a. sliced_refusal n (account_in store a)) (sym sound.heaps.sliced_pays) ∙ sym accepted in
          let blocks = taken.blocks ∙ ap (λ k. insert (sliced_at store script) k (zeros (sliced_size n - sliced_header))) taken.at in
          let value = (heap_beside one_more.leaves).value in
          finishes_heaps (blocks_change one_more) (λ sessions.
          let b = own_at sessions store script in
          ap (λ r. unless r b (sliced_in n (own_heap_gap (sliced_size n) b) b)) fits ∙ ap (λ o. sliced_in n o b) (same_gap sessions (sliced_size n) ∙ taken.lowest)
          ∙ (λ i. record { reply = Attached (sym taken.at i); lines = []; next = record b { account = sym charge i; heap = sym value i; sliced = sym blocks i } }))

    -- ---- sdel

    module _ (address : ℕ) (gives : GivesBlock (payer_of script.sliced) address store store' script.regions after) where
      -- the block was the script's
      given : GivesBlock script.account.0 address store store' script.regions after
      given = subst (λ a. GivesBlock a address store store' script.regions after) sound.heaps.sliced_pays gives

      -- its region alone goes
      abbrev less : Region
      less = record { of = given.ds; pages = block_pages given.payload }

      after_less : after.heap ≡ remove script.regions.heap given.start
      after_less = ap (λ (r : Regions). r.heap) given.detached

      left : (s : ℕ) (r : Region) → get after.heap s ≡ Some r → get (remove script.regions.heap given.start) s ≡ Some r
      left s r at = sym (ap (λ m. get m s) after_less) ∙ at

      -- it kept a sliced block's number
      tag : get script.regions.tags given.start ≡ Some sliced_tag
      tag =
          let payload : get (sliced_at store script) (given.start + sliced_header) ≡ Some given.payload = ap (get (sliced_at store script)) (sym given.at) ∙ given.was in
          let range = sym (same_ranges given.start) ∙ range_at (sliced_at store script) given.start given.payload payload in
          let one = mapped_from (λ (r : Region). record { of = 0; pages = r.pages }) (get (block_regions (share_at script.account.0 store script.regions)) given.start) _ range in
          (shown_block script.account.0 store script.regions given.start one.0 one.1).tag

      -- the account is credited
      credit : account_of (part script.account.0 store') ≡ credited (account_of (part_at store script)) (block_size given.payload) 1
      credit = ap (λ (o : Option Account). unwrap_or o (opened 0 0)) given.charge ∙ ap (λ a. credited a (block_size given.payload) 1) (sym (account_of-part script.account.0 store))

      -- sliced blocks change, by one less
      one_less : ChangesBlocks store script store' after
      one_less =
          let heap = script.regions.heap in
          let blocks = block_regions (share_at script.account.0 store script.regions) in record {
            leaves = record {
              lie = rw after_less (lie_without script.regions.pages heap given.start sound.heaps.heap.window.lie);
              beside = λ s.
                  (λ i. standing (after_less i) (ap (λ (r : Regions). r.tags) given.detached i) s)
                  ∙ stands_beside_less heap script.regions.tags given.start less given.region tag s;
              keeps = λ k none held. given.dataspaces k none;
              either = λ s r at.
                  let there = before_remove heap given.start s r (left s r at) in
                  let apart : s ≢ given.start = λ e. none-some r (sym (get-remove_same heap given.start s e) ∙ left s r at) in
                  elim (sound.heaps.all s r there) [
                    | inl one ↦ inl (ap (λ m. get m s) given.left ∙ get-remove_other blocks given.start s apart ∙ one)
                    | inr one ↦ inr (there, one)
                  ];
            };
            unnamed = λ start q r d there names. sound.own.blocks.unnamed start q r d (before_remove heap given.start start r (left start r there)) names;
            ram_limit = ap (λ (a : Account). a.ram_limit) credit;
            caps_limit = ap (λ (a : Account). a.caps_limit) credit;
            spare = omega (arith, given.count, sound.own.paid.spare, ap (λ (a : Account). a.caps_used) credit);
          }

      -- a block that the sliced heap gives back is the model's
      pub sdel_finishes : Does (Sdel address) Done store script store' (record script { regions = after; sliced = sliced' })
      unfolding own_of
      sdel_finishes =
          let value = (heap_beside one_less.leaves).value in
          finishes_heaps (blocks_change one_less) (λ sessions.
          let b = own_at sessions store script in
          ap (λ o. sliced_freed address o b) given.was
          ∙ (λ i. record { reply = Done; lines = []; next = record b { account = sym credit i; heap = sym value i; sliced = sym given.blocks i } }))

  -- what the sliced heap refuses, a snew is refused
  pub snew_refused : (n : ℕ) (refusal : Refusal) → Some refusal ≡ sliced_refusal n (account_in store (payer_of script.sliced)) → (sessions : Sessions) → refused (own_at sessions store script) refusal ≡ script_step (Snew n) (own_at sessions store script)
  unfolding own_of part
  snew_refused n refusal is sessions =
      let b = own_at sessions store script in
      let lacks : Some refusal ≡ sliced_refusal n b.account = is ∙ ap (λ a. sliced_refusal n (account_in store a)) sound.heaps.sliced_pays in
      ap (λ r. unless r b (sliced_in n (own_heap_gap (sliced_size n) b) b)) lacks

  -- and so is a sdel
  pub sdel_refused : (address : ℕ) (refusal : Refusal) → Some refusal ≡ free_refusal (blocks_at (payer_of script.sliced) store script.regions) address → (sessions : Sessions) →
      refused (own_at sessions store script) refusal ≡ script_step (Sdel address) (own_at sessions store script)
  unfolding own_of
  sdel_refused address refusal is sessions =
      none_freed address refusal (own_at sessions store script) (get (sliced_at store script) address) (is ∙ ap (λ a. free_refusal (blocks_at a store script.regions) address) sound.heaps.sliced_pays)
