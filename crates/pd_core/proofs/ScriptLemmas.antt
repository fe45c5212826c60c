-- A script over the memory: what its own calls leave, and what another's call leaves of it.
use Rattle.std.proofs.Common.{rules, ◌≡◌, ℕ, [], Some, subst, refl, sym, ap, ◌∙◌, ⊎_elim, inl, inr, length, is_some}
use Rattle.std.specs.Prelude.{◌⊎◌, Option, IsSome, Result, IsErrAnd}
use Rattle.std.proofs.lemmas.Result.{err_from_is_err_and}
use Rattle.trade_base.specs.declared.refusal.Refusal.{Refusal}
use Rattle.std.specs.Option.{option_map, unwrap_or}
use Rattle.std.specs.FinMap.{get}
use Rattle.own_model.specs.Account.{Account, opened}
use Rattle.own_model.specs.Call.{Call}
use Rattle.own_model.specs.OwnStep.{Outcome, refused, script_step}
use Rattle.own_model.specs.Region.{Region}
use Rattle.own_model.specs.Reply.{Reply}
use Rattle.own_model.specs.Reply.Reply.{Refused}
use Rattle.own_model.proofs.NatMapLemmas.{some_of}
use Rattle.cap_space.specs.Space.{Space}
use Rattle.region_map.specs.Regions.{Regions}
use Rattle.dataspace_core.specs.Share.{share_in, tags_of}
use Rattle.dataspace_core.specs.Store.{Store, Part, part, account_in, space_at, ram_limits_in, IsOpenIn, PartBecomes}
use Rattle.dataspace_core.proofs.LimitLaws.{limits_after}
use Rattle.dataspace_core.proofs.PartLaws.{account_of-part, open_after, open_in_part}
use Rattle.heap_core.specs.Heap.{payer_of as heap_payer}
use Rattle.heap_core.specs.Theorems.{block_region, IsMapOf, HeapStays as HeapStaysAs}
use Rattle.sliced_heap.specs.Heap.{payer_of as sliced_payer, share_at, blocks_at, MapsMemory}
use Rattle.sliced_heap.specs.Sliced.{block_regions}
use Rattle.sliced_heap.specs.Theorems.{HeapStays}
use Rattle.sliced_heap.proofs.ShareLemmas.{shown_block}
use Rattle.sliced_heap.proofs.HeapLaws.{map_stays_for_payer, heap_stays, heap_stays_elsewhere}
use Rattle.pd_core.specs.declared.call_value.CallValue.{CallValue}
use Rattle.pd_core.specs.Answer.{reply_of}
use Rattle.pd_core.specs.Does.{Does, DoesBeside}
use Rattle.pd_core.specs.Own.{Sessions, own_of, own_at, part_at, own_heap_at, sliced_at, lent_in}
use Rattle.pd_core.specs.Sound.{IsScript, AreOthers, HasHeaps, IsSoundScript, SparesOthers}
use Rattle.pd_core.specs.declared.script.Script.{Script}
use Rattle.sliced_heap.proofs.BesideLemmas.{map_of, whole_share, whole_tags, stands_alike}
use Rattle.sliced_heap.proofs.ShareLemmas.{region_of_block}
use Rattle.heap_core.proofs.StayLemmas as heap_laws
use Rattle.pd_core.proofs.LentLemmas.{LendAlike, LendersStay, own_lent, script_lent, others_still, lent_still}
use Rattle.pd_core.proofs.ScriptSettleLemmas.{Settles}

-- a refused call leaves all as it is
pub refuses : {call : Call} {refusal : Refusal} {store : Store} {script : Script} {new : Store} {after : Script} (answered : Result CallValue Refusal) → IsErrAnd answered (λ y. y ≡ refusal) →
    IsSoundScript store script → new ≡ store → after ≡ script → ((sessions : Sessions) → refused (own_at sessions store script) refusal ≡ script_step call (own_at sessions store script)) →
    Does call (reply_of answered) store script new after
refuses {call} {refusal} {store} {script} {new} {after} answered err sound memory same is =
    let told = err_from_is_err_and answered err in
    let replied : reply_of answered ≡ Refused refusal = ap reply_of told.1 ∙ ap Refused told.2 in
    let here : Does call (Refused refusal) store script store script = record { outcome = λ sessions ready. is sessions; keeps = search (rules, sound); others = λ other apart. refl } in
    subst (λ r. Does call r store script new after) (sym replied)
    (subst (λ m. Does call (Refused refusal) store script m after) (sym memory) (subst (λ x. Does call (Refused refusal) store script store x) (sym same) here))

-- a call that leaves all that isn't the script's spares others
pub leaves_others : {call : Call} {reply : Reply} {old : Store} {before : Script} {new : Store} {after : Script} → Does call reply old before new after →
    DoesBeside (SparesOthers before.account.0 before.caps.caps old new) call reply old before new after
leaves_others does = record { outcome = does.outcome; keeps = does.keeps; others = inl does.others }

-- a script that stays as it is while another's call changes the memory
pub record Stays (store : Store) (script : Script) (store' : Store) : Type 0 where
  pub sound : IsSoundScript store' script
  pub own : (sessions : Sessions) → own_at sessions store' script ≡ own_at sessions store script

module _ (store : Store) (script : Script) (sound : IsSoundScript store script) where
  -- what is so of the script's account is so of the one that a heap takes blocks for
  pub at_heap : (P : ℕ → Type 0) → P script.account.0 → P (heap_payer script.heap)
  at_heap P = subst P (sym sound.heaps.heap_pays)

  pub at_sliced : (P : ℕ → Type 0) → P script.account.0 → P (sliced_payer script.sliced)
  at_sliced P = subst P (sym sound.heaps.sliced_pays)

  -- its share shows the whole heap window of its map
  pub shows_all : (share_at script.account.0 store script.regions).heap ≡ script.regions.heap
  shows_all = whole_share (part_at store script) script.regions.heap script.regions.tags sound.own.blocks.held

  -- and the numbers kept there
  pub shows_tags : (share_at script.account.0 store script.regions).tags ≡ tags_of script.regions.heap script.regions.tags
  shows_tags = whole_tags (part_at store script) script.regions.heap script.regions.tags sound.own.blocks.held

  -- a chunk or large block is a region of the map
  pub block_there : (s : ℕ) (e : Region × ℕ) → block_region (share_at script.account.0 store script.regions) s ≡ Some e → get script.regions.heap s ≡ Some e.0
  block_there s e h = ap (λ m. get m s) (sym shows_all) ∙ (region_of_block (share_at script.account.0 store script.regions) s e h).0

  -- and so is a sliced block
  pub is_region : (s : ℕ) (r : Region) → get (block_regions (share_at script.account.0 store script.regions)) s ≡ Some r → get script.regions.heap s ≡ Some r
  is_region s r h = (shown_block script.account.0 store script.regions s r h).there

  -- each heap region is still one of a block where the blocks stand where they stood
  still_all : (store' : Store) (regions' : Regions) → regions'.heap ≡ script.regions.heap →
      block_regions (share_at script.account.0 store' regions') ≡ block_regions (share_at script.account.0 store script.regions) →
      ((s : ℕ) → block_region (share_at script.account.0 store' regions') s ≡ block_region (share_at script.account.0 store script.regions) s) →
      (s : ℕ) (r : Region) → get regions'.heap s ≡ Some r →
      (get (block_regions (share_at script.account.0 store' regions')) s ≡ Some r) ⊎ IsSome (block_region (share_at script.account.0 store' regions') s)
  still_all store' regions' same sliced blocks s r h = ⊎_elim
      (λ (one : get (block_regions (share_at script.account.0 store script.regions)) s ≡ Some r). inl (ap (λ m. get m s) sliced ∙ one))
      (λ (one : IsSome (block_region (share_at script.account.0 store script.regions) s)). inr (ap is_some (blocks s) ∙ one))
      (sound.heaps.all s r (ap (λ m. get m s) (sym same) ∙ h))

  -- ---- its own calls

  -- a call that leaves the heaps
  pub finishes : {call : Call} {reply : Reply} {store' : Store} {q : Part} {space' : Space} {regions' : Regions} → PartBecomes script.account.0 q store store' →
      Settles (lent_in store) call (part_at store script) script.caps script.regions (own_heap_at store script) (sliced_at store script) reply (part script.account.0 store') space' regions' →
      Does call reply store script store' (record script { caps = space'; regions = regions' })
  finishes {call} {reply} {store'} {q} {space'} {regions'} becomes done =
      let account = script.account.0 in
      let p' = part account store' in
      let made = done.makes in
      let others : AreOthers account store space'.caps = λ s k key names. sound.lent s k key (sym (made.leaves.buffers s) ∙ names) in
      let lenders : LendersStay store store' space'.caps = λ s k key names. becomes.others (space_at store key).payer (others s k key names).apart in
      let seen : LendAlike (lent_in store) (lent_in store') space'.caps = lent_still account store store' space'.caps others lenders in
      let window = done.spares.window in
      let own : PartBecomes account p' store store' = record { own = refl; others = becomes.others; root = becomes.root; parents = becomes.parents; room = becomes.room } in
      let opens = open_in_part account store sound.own.paid.is_open in
      let there = some_of p'.account made.script.paid.is_open in
      let limit : there.0.ram_limit ≡ (account_in store account).ram_limit
      = ap (λ (o : Option Account). (unwrap_or o (opened 0 0)).ram_limit) (sym there.1) ∙ made.leaves.ram_limit ∙ ap (λ (a : Account). a.ram_limit) (account_of-part account store) in
      let maps : MapsMemory store' regions' = map_stays_for_payer account p' there.0 store store' script.regions regions' sound.heaps.sliced.maps window own opens there.1 limit
      (λ start region at. ap (option_map length) (done.spares.bytes start region at)) in
      let map : IsMapOf store' regions' = map_of maps (rw window.pages sound.heaps.heap.window.few) (rw (window.pages, window.heap) sound.heaps.heap.window.lie) in
      -- the sliced blocks
      let sliced : HeapStays script.sliced store store' script.regions regions' = heap_stays script.sliced p' store store' script.regions regions' sound.heaps.sliced window maps
      (at_sliced (λ a. PartBecomes a p' store store') own) made.script.paid.is_open
      (at_sliced (λ a. (start : ℕ) (region : Region) → get (block_regions (share_at a store script.regions)) start ≡ Some region → get p'.spaces region.of ≡ get (part a store).spaces region.of)
      (λ start region at. done.spares.bytes start region (is_region start region at))) in
      let blocks : blocks_at account store' regions' ≡ blocks_at account store script.regions = subst (λ a. blocks_at a store' regions' ≡ blocks_at a store script.regions) sound.heaps.sliced_pays sliced.blocks in
      let stands = subst (λ a. block_regions (share_at a store' regions') ≡ block_regions (share_at a store script.regions)) sound.heaps.sliced_pays sliced.stands in
      -- the heap
      let numbers : (s : ℕ) → block_region (share_at account store' regions') s ≡ block_region (share_at account store script.regions) s
      = stands_alike (share_at account store script.regions) (share_at account store' regions')
      (whole_share p' regions'.heap regions'.tags made.script.blocks.held ∙ window.heap ∙ sym shows_all)
      (whole_tags p' regions'.heap regions'.tags made.script.blocks.held ∙ (λ i. tags_of (window.heap i) (window.tags i)) ∙ sym shows_tags) in
      let heap : HeapStaysAs script.heap store store' script.regions regions' = heap_laws.heap_stays script.heap store store' script.regions regions' sound.heaps.heap map
      (at_heap (IsOpenIn store') (open_after own made.script.paid.is_open))
      (at_heap (λ a. (s : ℕ) → block_region (share_at a store' regions') s ≡ block_region (share_at a store script.regions) s) numbers)
      (at_heap (λ a. (s k : ℕ) (r : Region) → block_region (share_at a store script.regions) s ≡ Some (r, k) → get (part a store').spaces r.of ≡ get (part a store).spaces r.of)
      (λ s k r h. done.spares.bytes s r (block_there s (r, k) h))) in record {
        outcome = λ sessions ready.
            (λ i. record { reply = reply; lines = []; next = own_of (lent_in store') sessions p' space'.caps regions'.user (heap.value i) (blocks i) })
            ∙ ap {B = Outcome} (λ s. record { reply = reply; lines = []; next = s }) (own_lent (lent_in store) (lent_in store') p' space'.caps seen regions'.user (own_heap_at store script) (sliced_at store script) sessions)
            ∙ made.outcome sessions ready;
        keeps = record {
          sound = record {
            own = subst (λ h. IsScript (lent_in store') p' space' regions' h (blocks_at account store' regions')) (sym heap.value)
                (subst (IsScript (lent_in store') p' space' regions' (own_heap_at store script)) (sym blocks) (script_lent seen made.script));
            lent = others_still account store store' space'.caps others lenders;
            heaps = record {
              heap = heap.sound;
              sliced = sliced.sound;
              heap_pays = sound.heaps.heap_pays;
              sliced_pays = sound.heaps.sliced_pays;
              all = still_all store' regions' window.heap stands numbers;
            };
          };
          account = refl;
          reserve = refl;
          ram_limit = made.leaves.ram_limit;
          caps_limit = made.leaves.caps_limit;
          places = made.leaves.places;
          sessions = made.leaves.sessions;
          buffers = made.leaves.buffers;
          session_count = made.leaves.session_count;
          root = becomes.root;
          parents = becomes.parents;
          room = becomes.room;
          limits = limits_after account p' store store' there.0 own there.1 opens limit;
        };
        others = becomes.others;
      }

  -- ---- another's call

  -- what such a call leaves of its heaps
  pub record HeapsStay (store' : Store) : Type 0 where
    pub has : HasHeaps store' script
    pub heap : own_heap_at store' script ≡ own_heap_at store script
    pub sliced : sliced_at store' script ≡ sliced_at store script

  -- where its part and the limits stay
  pub heaps_elsewhere : (store' : Store) → part_at store' script ≡ part_at store script → ram_limits_in store' ≡ ram_limits_in store → HeapsStay store'
  heaps_elsewhere store' same limits =
      let account = script.account.0 in
      let regions = script.regions in
      let sliced : HeapStays script.sliced store store' regions regions = heap_stays_elsewhere script.sliced store store' regions sound.heaps.sliced
      (at_sliced (λ a. part a store' ≡ part a store) same) limits
      (at_sliced (λ a. (start : ℕ) (region : Region) → get regions.heap start ≡ Some region → IsSome (get (part a store).spaces region.of)) sound.own.blocks.held) in
      let blocks : sliced_at store' script ≡ sliced_at store script = subst (λ a. blocks_at a store' regions ≡ blocks_at a store regions) sound.heaps.sliced_pays sliced.blocks in
      let stands = subst (λ a. block_regions (share_at a store' regions) ≡ block_regions (share_at a store regions)) sound.heaps.sliced_pays sliced.stands in
      let numbers : (s : ℕ) → block_region (share_at account store' regions) s ≡ block_region (share_at account store regions) s
      = λ s i. block_region (share_in (same i) regions.heap regions.tags) s in
      let heap : HeapStaysAs script.heap store store' regions regions = heap_laws.heap_stays script.heap store store' regions regions sound.heaps.heap
      (map_of sliced.sound.maps sound.heaps.heap.window.few sound.heaps.heap.window.lie)
      (at_heap (IsOpenIn store') (open_in_part account store' (subst (λ (p : Part). IsSome p.account) (sym same) sound.own.paid.is_open)))
      (at_heap (λ a. (s : ℕ) → block_region (share_at a store' regions) s ≡ block_region (share_at a store regions) s) numbers)
      (at_heap (λ a. (s k : ℕ) (r : Region) → block_region (share_at a store regions) s ≡ Some (r, k) → get (part a store').spaces r.of ≡ get (part a store).spaces r.of)
      (λ s k r h. ap (λ (p : Part). get p.spaces r.of) same)) in record {
        has = record {
          heap = heap.sound;
          sliced = sliced.sound;
          heap_pays = sound.heaps.heap_pays;
          sliced_pays = sound.heaps.sliced_pays;
          all = still_all store' regions refl stands numbers;
        };
        heap = heap.value;
        sliced = blocks;
      }

  module _ (store' : Store) (same : part_at store' script ≡ part_at store script) (limits : ram_limits_in store' ≡ ram_limits_in store) where
    abbrev stay : HeapsStay store'
    stay = heaps_elsewhere store' same limits

    -- what is a script with what it had is one with what it has
    pub script_stays : IsScript (lent_in store') (part_at store script) script.caps script.regions (own_heap_at store script) (sliced_at store script) →
        IsScript (lent_in store') (part_at store' script) script.caps script.regions (own_heap_at store' script) (sliced_at store' script)
    script_stays is =
        subst (λ p. IsScript (lent_in store') p script.caps script.regions (own_heap_at store' script) (sliced_at store' script)) (sym same)
        (subst (λ h. IsScript (lent_in store') (part_at store script) script.caps script.regions h (sliced_at store' script)) (sym stay.heap)
        (subst (IsScript (lent_in store') (part_at store script) script.caps script.regions (own_heap_at store script)) (sym stay.sliced) is))

    -- and its own state goes by what it had
    pub own_stays_but_lent : (sessions : Sessions) → own_at sessions store' script
        ≡ own_of (lent_in store') sessions (part_at store script) script.caps.caps script.regions.user (own_heap_at store script) (sliced_at store script)
    own_stays_but_lent sessions i = own_of (lent_in store') sessions (same i) script.caps.caps script.regions.user (stay.heap i) (stay.sliced i)

    -- a call that leaves the parts of those who pay for what it is lent, too, leaves all of it
    pub stays_elsewhere : LendersStay store store' script.caps.caps → Stays store script store'
    stays_elsewhere lenders =
        let seen = lent_still script.account.0 store store' script.caps.caps sound.lent lenders in record {
          sound = record {
            own = script_stays (script_lent seen sound.own);
            lent = others_still script.account.0 store store' script.caps.caps sound.lent lenders;
            heaps = stay.has;
          };
          own = λ sessions.
              own_stays_but_lent sessions
              ∙ own_lent (lent_in store) (lent_in store') (part_at store script) script.caps.caps seen script.regions.user (own_heap_at store script) (sliced_at store script) sessions;
        }
