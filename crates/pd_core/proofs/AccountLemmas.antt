-- A script's calls on its account and its capabilities.
use Rattle.std.proofs.Common.{◌≡◌, ◌≢◌, ℕ, ◌<◌, true, false, List, [], length, Option, Some, None, is_some, true≢false, refl, sym, ap, ◌∙◌, arith}
use Rattle.std.proofs.lemmas.Option.{none-some, same_Some}
use Rattle.std.specs.Option.{option_map, option_and_then}
use Rattle.std.specs.FinMap.{get, insert, remove, len}
use Rattle.trade_base.specs.Page.{page_of}
use Rattle.trade_base.specs.declared.id.DsId.{DsId}
use Rattle.trade_base.specs.declared.id.Selector.{Selector}
use Rattle.trade_base.specs.declared.refusal.Refusal.{Refusal}
use Rattle.trade_base.specs.declared.refusal.Refusal.TheVariants.{InvalidCap}
use Rattle.own_model.specs.Account.{shortage, alloc_refusal, credited, Fits}
use Rattle.own_model.specs.Call.Call.{Alloc, Free, Capalloc, Capfree}
use Rattle.own_model.specs.NatMap.{NatMap}
use Rattle.own_model.specs.OwnHeap.{OwnHeap}
use Rattle.own_model.specs.OwnState.{OwnState, Object, zeros, new_selector}
use Rattle.own_model.specs.OwnState.Object.{Dataspace as ADataspace, RpcObject as AnRpcObject, OpenSession, Buffer as ABuffer}
use Rattle.own_model.specs.Session.{Session as AnOpenSession}
use Rattle.own_model.specs.OwnStep.{Outcome, refused, allocated, freed, cap_allocated, cap_freed, unless, script_step}
use Rattle.own_model.specs.Region.{Region, without}
use Rattle.own_model.specs.Reply.Reply.{Selected, Done}
use Rattle.own_model.proofs.NatMapLemmas.{get-insert_other, get-insert_same, get-remove_other, get-remove_same, apart_from_free, before_remove}
use Rattle.own_model.proofs.RegionLemmas.{renamed-without, left_without}
use Rattle.own_model.proofs.StepLemmas.{covers, accepted_size}
use Rattle.own_model.proofs.Totals.{len-insert_new, len-remove_at, total_at_le}
use Rattle.cap_space.specs.Space.{Space, dataspace_of, is_rpc_object, with_cap, without_cap}
use Rattle.cap_space.specs.declared.cap.Cap.{Cap}
use Rattle.cap_space.specs.declared.cap.Cap.TheVariants.{Dataspace, RpcObject, Session, Buffer}
use Rattle.region_map.specs.Regions.{Regions, all_detached}
use Rattle.dataspace_core.specs.Store.{Part, account_of, part_with_space, part_without_space, charged_part, credited_part, bytes_of}
use Rattle.pd_core.specs.Own.{Sessions, object_of, selector_of, regions_of, own_of, Lent, key_at}
use Rattle.pd_core.specs.Sound.{rpc_weight, buffer_at, IsScript}
use Rattle.pd_core.proofs.ScriptNameLemmas.{is_named, named_is}
use Rattle.pd_core.proofs.ScriptOwnLemmas.{before, object_is, has_bytes, names_object, grows, shrinks}
use Rattle.pd_core.proofs.ScriptSettleLemmas.{Settles, same_window}

-- what is taken as a dataspace is that dataspace's capability
pub taken_dataspace : (o : Option Cap) (ds : DsId) → Some ds ≡ dataspace_of o → o ≡ Some (Dataspace ds)
taken_dataspace None ds h = cc
taken_dataspace (Some (Dataspace d)) ds h = cc
taken_dataspace (Some RpcObject) ds h = cc
taken_dataspace (Some (Buffer space session)) ds h = cc
taken_dataspace (Some (Session server session)) ds h = cc

-- and as an RPC object is one
pub found_rpc : (o : Option Cap) → is_rpc_object o ≡ true → o ≡ Some RpcObject
found_rpc None h = absurd (true≢false (sym h))
found_rpc (Some (Dataspace d)) h = absurd (true≢false (sym h))
found_rpc (Some RpcObject) h = refl
found_rpc (Some (Buffer space session)) h = absurd (true≢false (sym h))
found_rpc (Some (Session server session)) h = absurd (true≢false (sym h))

-- dataspaces of one capability have one key
same_key : (a b : DsId) → Dataspace a ≡ Dataspace b → a.0 ≡ b.0
same_key a b e = let same : a ≡ b = cc in ap (λ (d : DsId). d.0) same

-- a call that refuses a session refuses what may be one
no_session : (step : Option Object → Outcome) (b : OwnState) → step None ≡ refused b InvalidCap → ((session : AnOpenSession) → step (Some (OpenSession session)) ≡ refused b InvalidCap) →
    (o : Option AnOpenSession) → refused b InvalidCap ≡ step (option_map OpenSession o)
no_session step b none known None = sym none
no_session step b none known (Some session) = sym (known session)

-- a call that refuses what names nothing, an RPC object, a session or a buffer refuses what names no dataspace
pub refuses : (L : Lent) (step : Option Object → Outcome) (b : OwnState) → step None ≡ refused b InvalidCap → step (Some AnRpcObject) ≡ refused b InvalidCap →
    ((session : AnOpenSession) → step (Some (OpenSession session)) ≡ refused b InvalidCap) → (sessions : Sessions) (p : Part) (o : Option Cap) →
    ((space : DsId) (session : Selector) → o ≡ Some (Buffer space session) → step (Some (ABuffer session.0 (L space.0))) ≡ refused b InvalidCap) → dataspace_of o ≡ None → refused b InvalidCap ≡ step (option_and_then (object_of L sessions p) o)
refuses L step b none rpc known sessions p None buffer h = sym none
refuses L step b none rpc known sessions p (Some (Dataspace d)) buffer h = cc
refuses L step b none rpc known sessions p (Some RpcObject) buffer h = sym rpc
refuses L step b none rpc known sessions p (Some (Session server session)) buffer h = no_session step b none known (sessions server session.0)
refuses L step b none rpc known sessions p (Some (Buffer space session)) buffer h = sym (buffer space session refl)

-- what is no RPC object isn't freed as one
no_rpc : (L : Lent) (sessions : Sessions) (p : Part) (s : ℕ) (b : OwnState) (o : Option Cap) → is_rpc_object o ≡ false → refused b InvalidCap ≡ cap_freed s (option_and_then (object_of L sessions p) o) b
no_rpc L sessions p s b None h = refl
no_rpc L sessions p s b (Some (Dataspace d)) h = elim (get p.spaces d.0) as (λ o. refused b InvalidCap ≡ cap_freed s (option_map ADataspace o) b) [ None ↦ refl | Some bytes ↦ refl ]
no_rpc L sessions p s b (Some RpcObject) h = absurd (true≢false h)
no_rpc L sessions p s b (Some (Buffer space session)) h = refl
no_rpc L sessions p s b (Some (Session server session)) h = no_session (λ o. cap_freed s o b) b refl (λ session. refl) (sessions server session.0)

module _ {L : Lent} (p : Part) (space : Space) (regions : Regions) (heap : OwnHeap) (sliced : NatMap (List ℕ)) (sound : IsScript L p space regions heap sliced) where
  -- there is a place for one more selector where the account covers one more capability
  pub has_place : (n : ℕ) → Fits (account_of p) n 1 → len space.caps < space.places
  has_place n fits = omega (arith, fits.caps_fit, sound.paid.named, sound.paid.placed)

  -- ---- alloc

  -- an alloc is refused as the account tells
  pub alloc_refused : (n : ℕ) (refusal : Refusal) → Some refusal ≡ alloc_refusal n (account_of p) → (sessions : Sessions) → refused (before p space regions heap sliced sound sessions) refusal ≡ script_step (Alloc n) (before p space regions heap sliced sound sessions)
  unfolding own_of
  alloc_refused n refusal is sessions = let b = before p space regions heap sliced sound sessions in ap (λ r. unless r b (allocated n b)) is

  -- the account of one that isn't refused covers the pages and a capability
  pub alloc_fits : (n : ℕ) → None ≡ alloc_refusal n (account_of p) → Fits (account_of p) (page_of n) 1
  alloc_fits n accepted = covers _ _ _ (accepted_size n _ (sym accepted))

  module _ (n : ℕ) (accepted : None ≡ alloc_refusal n (account_of p)) (ds : DsId) (free : get p.spaces ds.0 ≡ None)
      (not_lent : (q of key : ℕ) → buffer_at (get space.caps q) ≡ Some (of, key) → key ≢ ds.0) where
    -- the dataspaces with the new one
    abbrev more : NatMap (List ℕ)
    more = insert p.spaces ds.0 (zeros (page_of n))

    -- an alloc settles
    pub alloc_settles : (s : ℕ) → s ≡ new_selector space.caps → Settles L (Alloc n) p space regions heap sliced (Selected s) (part_with_space p ds.0 n) (with_cap space s (Dataspace ds)) regions
    unfolding own_of
    alloc_settles s least =
        let fits = get-insert_same p.spaces ds.0 (zeros (page_of n)) ds.0 refl in
        grows p space regions heap sliced sound (Alloc n) (page_of n) more (Dataspace ds) (ADataspace (zeros (page_of n)))
        (λ key there. get-insert_other p.spaces ds.0 (zeros (page_of n)) key (apart_from_free p.spaces ds.0 key free there))
        (λ d is. ap (get p.spaces) (sym (same_key ds d is)) ∙ free)
        (omega (arith, len-insert_new p.spaces ds.0 (zeros (page_of n)) free)) refl
        (λ d is. ap (λ k. is_some (get more k)) (sym (same_key ds d is)) ∙ ap is_some fits) refl
        (λ q of key has h. not_lent q of key has (sym (same_Some ds.0 key h)))
        (λ sessions. ap (option_map ADataspace) fits) s least
        (λ sessions. let b = before p space regions heap sliced sound sessions in ap (λ r. unless r b (allocated n b)) (sym accepted))

  -- ---- free

  module _ (s : ℕ) where
    -- a free of what is no dataspace is refused
    pub free_refused : dataspace_of (get space.caps s) ≡ None → (sessions : Sessions) → refused (before p space regions heap sliced sound sessions) InvalidCap ≡ script_step (Free s) (before p space regions heap sliced sound sessions)
    free_refused h sessions =
        let b = before p space regions heap sliced sound sessions in
        refuses L (λ o. freed s o b) b refl refl (λ session. refl) sessions p (get space.caps s) (λ of session named. refl) h ∙ ap (λ o. freed s o b) (sym (object_is p space regions heap sliced sound sessions s))

    module _ (ds : DsId) (named : get space.caps s ≡ Some (Dataspace ds)) where
      -- what the selector names is under one key
      alone : (thing : ℕ) → selector_of space.caps thing ≡ Some s → thing ≡ ds.0
      alone thing is = same_Some thing ds.0 (sym (is_named space.caps thing s is) ∙ ap key_at named)

      -- no selector that is left names the dataspace
      rest_apart : (q : ℕ) (d : DsId) → get (remove space.caps s) q ≡ Some (Dataspace d) → d.0 ≢ ds.0
      rest_apart q d there e =
          let same : q ≡ s = sound.named.one q s ds.0 (ap key_at (before_remove space.caps s q (Dataspace d) there) ∙ ap (λ k. Some k) e) (ap key_at named) in
          true≢false (sym (ap is_some there) ∙ ap is_some (get-remove_same space.caps s q same))

      -- a region that is left is of another dataspace
      left : (start : ℕ) (region : Region) → get (without ds.0 regions.user) start ≡ Some region → (get regions.user start ≡ Some region) × (selector_of space.caps region.of ≢ Some s)
      left start region there = let was = left_without ds.0 regions.user start region there in (was.0, λ names. was.1 (alone region.of names))

      -- a free settles
      pub free_settles : Settles L (Free s) p space regions heap sliced Done (part_without_space p ds.0) (without_cap space s) (all_detached regions ds.0)
      unfolding own_of regions_of
      free_settles =
          let has = has_bytes p space regions heap sliced sound s ds named in
          let map = renamed-without (selector_of space.caps) ds.0 s (named_is space.caps sound.named.one s ds.0 (ap key_at named)) alone regions.user in
          shrinks p space regions heap sliced sound (Free s) (length (bytes_of p ds.0)) (remove p.spaces ds.0) (Dataspace ds) s named (all_detached regions ds.0)
          (λ q d there. get-remove_other p.spaces ds.0 d.0 (rest_apart q d there)) left
          (λ start region there. get-remove_other p.spaces ds.0 region.of (λ e. sound.blocks.unnamed start s region ds there named (sym e)))
          (omega (arith, len-remove_at p.spaces ds.0 (bytes_of p ds.0) has)) refl (record { heap = refl; tags = refl; most = refl; pages = refl }) refl refl
          (λ sessions. let b = before p space regions heap sliced sound sessions in
          ap (λ o. freed s o b) (names_object p space regions heap sliced sound sessions s ds named)
          ∙ (λ i. record { reply = Done; lines = []; next = record b { account = credited b.account (length (bytes_of p ds.0)) 1; selectors = remove b.selectors s; regions = sym map i } }))

  -- ---- capalloc

  -- a capalloc is refused as the account tells
  pub capalloc_refused : (refusal : Refusal) → Some refusal ≡ shortage (account_of p) 0 1 → (sessions : Sessions) → refused (before p space regions heap sliced sound sessions) refusal ≡ script_step Capalloc (before p space regions heap sliced sound sessions)
  unfolding own_of
  capalloc_refused refusal is sessions = let b = before p space regions heap sliced sound sessions in ap (λ r. unless r b (cap_allocated b)) is

  -- the account of one that isn't refused covers a capability
  pub cap_fits : None ≡ shortage (account_of p) 0 1 → Fits (account_of p) 0 1
  cap_fits accepted = covers _ _ _ (sym accepted)

  -- a capalloc settles
  pub capalloc_settles : None ≡ shortage (account_of p) 0 1 → (s : ℕ) → s ≡ new_selector space.caps → Settles L Capalloc p space regions heap sliced (Selected s) (charged_part p 1) (with_cap space s RpcObject) regions
  unfolding own_of
  capalloc_settles accepted s least =
      grows p space regions heap sliced sound Capalloc 0 p.spaces RpcObject AnRpcObject (λ key there. refl) (λ ds is. cc) refl refl (λ ds is. cc) refl (λ q of key has h. none-some key h) (λ sessions. refl) s least
      (λ sessions. let b = before p space regions heap sliced sound sessions in ap (λ r. unless r b (cap_allocated b)) (sym accepted))

  -- ---- capfree

  module _ (s : ℕ) where
    -- a capfree of what is no RPC object is refused
    pub capfree_refused : is_rpc_object (get space.caps s) ≡ false → (sessions : Sessions) → refused (before p space regions heap sliced sound sessions) InvalidCap ≡ script_step (Capfree s) (before p space regions heap sliced sound sessions)
    capfree_refused none sessions =
        let b = before p space regions heap sliced sound sessions in
        no_rpc L sessions p s b (get space.caps s) none ∙ ap (λ o. cap_freed s o b) (sym (object_is p space regions heap sliced sound sessions s))

    module _ (named : get space.caps s ≡ Some RpcObject) where
      -- the account uses a capability more than it pays dataspaces
      pub has_spare : len p.spaces < (account_of p).caps_used
      has_spare = omega (arith, sound.paid.spare, total_at_le rpc_weight space.caps s RpcObject named)

      -- no region is of an RPC object
      not_attached : (thing : ℕ) → selector_of space.caps thing ≢ Some s
      not_attached thing is = none-some thing (sym (ap key_at named) ∙ is_named space.caps thing s is)

      -- a capfree settles
      pub capfree_settles : Settles L (Capfree s) p space regions heap sliced Done (credited_part p 1) (without_cap space s) regions
      unfolding own_of
      capfree_settles =
          shrinks p space regions heap sliced sound (Capfree s) 0 p.spaces RpcObject s named regions (λ q d there. refl) (λ start region there. (there, not_attached region.of))
          (λ start region there. refl) refl refl same_window refl refl
          (λ sessions. let b = before p space regions heap sliced sound sessions in
          ap (λ o. cap_freed s o b) (object_is p space regions heap sliced sound sessions s ∙ ap (option_and_then (object_of L sessions p)) named))
