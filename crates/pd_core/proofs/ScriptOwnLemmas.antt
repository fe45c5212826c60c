-- A script's own state when its part of the memory and its tables change.
use Rattle.std.proofs.Common.{◌≡◌, ℕ, false, ◌+◌, ◌≤◌, ◌≢◌, List, [], ◌∷◌, Option, Some, None, is_some, IsSome, inl, inr, subst, true≢false, refl, sym, ap, ◌∙◌, arith}
use Rattle.std.specs.Option.{option_map, option_and_then, unwrap_or}
use Rattle.std.specs.FinMap.{get, insert, remove, len}
use Rattle.std.proofs.lemmas.Bool.{cases_eq}
use Rattle.std.proofs.lemmas.Option.{none-some, same_Some}
use Rattle.trade_base.specs.declared.id.DsId.{DsId}
use Rattle.trade_base.specs.declared.id.Selector.{Selector}
use Rattle.trade_base.specs.declared.id.SessionId.{SessionId}
use Rattle.own_model.specs.Reserve.{no_reserve}
use Rattle.own_model.specs.NatMap.{NatMap, picked, total}
use Rattle.own_model.specs.Account.{opened, charged, credited}
use Rattle.own_model.specs.Call.{Call}
use Rattle.own_model.specs.OwnHeap.{OwnHeap}
use Rattle.own_model.specs.OwnState.{OwnState, Object, new_selector, pages_in}
use Rattle.own_model.specs.OwnState.Object.{Dataspace as ADataspace, OpenSession}
use Rattle.own_model.specs.OwnStep.{Outcome, script_step, unrouted}
use Rattle.own_model.specs.Region.{Region}
use Rattle.own_model.specs.Reply.{Reply}
use Rattle.own_model.specs.Reply.Reply.{Selected, Done}
use Rattle.own_model.specs.Services.ServiceState.{Logging}
use Rattle.own_model.specs.Use.{object_caps}
use Rattle.own_model.specs.StartList.{Entry}
use Rattle.own_model.proofs.NatMapLemmas.{same, some_of, get-insert_same, get-insert_other, get-remove_same, get-remove_other, get-picked, picked-insert_some, picked-remove, picked_alike, alike_insert, alike_remove, and_then_alike, after_insert, apart_from_free, none_at, before_remove}
use Rattle.own_model.proofs.NewSelector.{new_selector_is, new_selector_positive, new_selector_free, new_selector_least}
use Rattle.own_model.proofs.Totals.{len-insert_new, len-insert_at, len-remove_at, total-insert_new, total-remove}
use Rattle.own_model.proofs.StepSoundLemmas.{step_sound}
use Rattle.own_model.proofs.StepUseLemmas.{run_uses}
use Rattle.own_model.proofs.StepLimitLemmas.{step_within}
use Rattle.cap_space.specs.Space.{Space, with_cap, without_cap}
use Rattle.cap_space.specs.declared.cap.Cap.{Cap}
use Rattle.cap_space.specs.declared.cap.Cap.TheVariants.{Dataspace, RpcObject, Session, Buffer}
use Rattle.region_map.specs.Regions.{Regions}
use Rattle.dataspace_core.specs.Store.{Store, Part, part, space_at, account_of, bytes_of, PartBecomes}
use Rattle.dataspace_core.proofs.PartLaws.{paid_in_part}
use Rattle.sliced_heap.specs.Theorems.{KeepsHeapWindow}
use Rattle.pd_core.specs.Own.{Sessions, HasSessions, object_of, selector_of, regions_of, own_of, Lent, key_at}
use Rattle.pd_core.specs.Sound.{rpc_weight, session_weight, session_at, buffer_at, IsOne, AreNamed, AreBlocks, IsLawful, IsScript}
use Rattle.pd_core.proofs.ScriptSettleLemmas.{DoesOwn, Makes, Settles, same_window}
use Rattle.pd_core.proofs.ScriptNameLemmas.{Names, is_named, regions_alike, attached_alike, cap_named, key_before, own_or_lent, lent_key}

-- what holds of a capability's object, by kinds: a dataspace's depends on its bytes alone
object_alike : (L : Lent) (sessions : Sessions) (p p' : Part) (cap : Cap) → ((ds : DsId) → cap ≡ Dataspace ds → get p'.spaces ds.0 ≡ get p.spaces ds.0) → object_of L sessions p' cap ≡ object_of L sessions p cap
object_alike L sessions p p' (Dataspace ds) alike = ap (option_map ADataspace) (alike ds refl)
object_alike L sessions p p' RpcObject alike = refl
object_alike L sessions p p' (Session server session) alike = refl
object_alike L sessions p p' (Buffer space session) alike = refl

-- what is there is its value
pub value_of : (o : Option (List ℕ)) → IsSome o → o ≡ Some (unwrap_or o [])
value_of None h = absurd (true≢false (sym h))
value_of (Some bytes) h = refl

-- there is an object where there is a capability, and nowhere else
has_object : (L : Lent) (sessions : Sessions) (p : Part) (o : Option Cap) → ((ds : DsId) → o ≡ Some (Dataspace ds) → IsSome (get p.spaces ds.0)) →
    ((server : ℕ) (session : SessionId) → o ≡ Some (Session server session) → IsSome (sessions server session.0)) → is_some (option_and_then (object_of L sessions p) o) ≡ is_some o
has_object L sessions p None there ready = refl
has_object L sessions p (Some (Dataspace ds)) there ready = ap (λ s. is_some (option_map ADataspace s)) (some_of (get p.spaces ds.0) (there ds refl)).1
has_object L sessions p (Some RpcObject) there ready = refl
has_object L sessions p (Some (Buffer space session)) there ready = refl
has_object L sessions p (Some (Session server session)) there ready = ap (λ s. is_some (option_map OpenSession s)) (some_of (sessions server session.0) (ready server session refl)).1

-- ---- sessions

-- sessions of which each is open
abbrev pub all_sessions : Sessions
all_sessions server session = Some (record { label = []; account = opened 0 0; state = Logging []; server = server })

-- a capability of a session is one
session_is : (o : Option Cap) (server : ℕ) (session : SessionId) → session_at o ≡ Some (server, session) → o ≡ Some (Session server session)
session_is None server session h = cc
session_is (Some (Dataspace ds)) server session h = cc
session_is (Some RpcObject) server session h = cc
session_is (Some (Buffer space of)) server session h = cc
session_is (Some (Session a b)) server session h =
    let e : (a, b) ≡ (server, session) = same_Some (a, b) (server, session) h in ap (λ (x : ℕ × SessionId). Some (Session x.0 x.1)) e

-- sessions that are open after a call were before it
pub open_before : (sessions : Sessions) (caps caps' : NatMap Cap) → ((q : ℕ) → session_at (get caps' q) ≡ session_at (get caps q)) → HasSessions sessions caps' → HasSessions sessions caps
open_before sessions caps caps' alike ready q server session there =
    ready q server session (session_is (get caps' q) server session (alike q ∙ ap session_at there))

-- what is no session and no buffer counts as none
no_weight : (cap : Cap) → session_at (Some cap) ≡ None → buffer_at (Some cap) ≡ None → session_weight cap ≡ 0
no_weight (Dataspace ds) plain own = refl
no_weight RpcObject plain own = refl
no_weight (Buffer space session) plain own = cc
no_weight (Session server session) plain own = cc

module _ {L : Lent} (p : Part) (space : Space) (regions : Regions) (heap : OwnHeap) (sliced : NatMap (List ℕ)) (sound : IsScript L p space regions heap sliced) where
  -- the part has the bytes of a dataspace that a selector names
  pub is_held : (s : ℕ) (ds : DsId) → get space.caps s ≡ Some (Dataspace ds) → IsSome (get p.spaces ds.0)
  is_held s ds names = sound.named.there s ds names

  -- they are these
  pub has_bytes : (s : ℕ) (ds : DsId) → get space.caps s ≡ Some (Dataspace ds) → get p.spaces ds.0 ≡ Some (bytes_of p ds.0)
  has_bytes s ds names = value_of (get p.spaces ds.0) (is_held s ds names)

  module _ (sessions : Sessions) where
    -- the own state before the change
    abbrev pub before : OwnState
    before = own_of L sessions p space.caps regions.user heap sliced

    -- what the own state has under a selector is the object of the capability there
    pub object_is : (s : ℕ) → get before.selectors s ≡ option_and_then (object_of L sessions p) (get space.caps s)
    unfolding own_of
    object_is s = get-picked (object_of L sessions p) space.caps s

    -- and what the own state has under the selector
    pub names_object : (s : ℕ) (ds : DsId) → get space.caps s ≡ Some (Dataspace ds) → get before.selectors s ≡ Some (ADataspace (bytes_of p ds.0))
    names_object s ds names = object_is s ∙ ap (option_and_then (object_of L sessions p)) names ∙ ap (option_map ADataspace) (has_bytes s ds names)

    module _ (ready : HasSessions sessions space.caps) where
      -- the own state has the selectors of the space
      pub selects : (q : ℕ) → is_some (get before.selectors q) ≡ is_some (get space.caps q)
      selects q = ap is_some (object_is q) ∙ has_object L sessions p (get space.caps q) (sound.named.there q) (ready q)

      -- the own state's new selector is the space's
      pub same_new_selector : new_selector before.selectors ≡ new_selector space.caps
      same_new_selector =
          new_selector_is _ _ (new_selector_positive space.caps)
          (none_at _ _ (selects _ ∙ ap is_some (new_selector_free space.caps)))
          (λ t positive below. selects t ∙ new_selector_least space.caps t positive below)

  module _ (call : Call) where
    -- what the call makes of the own state is lawful, as it was before
    pub kept : (reply : Reply) (p' : Part) (space' : Space) (regions' : Regions) (heap' : OwnHeap) (sliced' : NatMap (List ℕ)) → ((q : ℕ) → session_at (get space'.caps q) ≡ session_at (get space.caps q)) →
        DoesOwn L call p space regions heap sliced reply p' space' regions' heap' sliced' →
        (sessions : Sessions) → HasSessions sessions space'.caps → IsLawful (own_of L sessions p' space'.caps regions'.user heap' sliced')
    unfolding own_of
    kept reply p' space' regions' heap' sliced' alike outcome sessions ready =
        let entry : Entry = unrouted in
        let was = open_before sessions space.caps space'.caps alike ready in
        let law = sound.lawful sessions was in
        subst (λ (x : Outcome). IsLawful x.next) (sym (outcome sessions was)) (record {
          sound = step_sound entry call (before sessions) law.sound;
          uses = run_uses entry (call ∷ []) (before sessions) law.uses;
          within = step_within entry call (before sessions) law.within;
        })

    -- ---- a new capability

    module _ (n : ℕ) (spaces : NatMap (List ℕ)) (cap : Cap) (object : Object)
        (still : (key : ℕ) → IsSome (get p.spaces key) → get spaces key ≡ get p.spaces key)
        (fresh : (ds : DsId) → cap ≡ Dataspace ds → get p.spaces ds.0 ≡ None)
        (counts : len spaces + rpc_weight cap ≡ len p.spaces + 1)
        (plain : session_at (Some cap) ≡ None) (present : (ds : DsId) → cap ≡ Dataspace ds → IsSome (get spaces ds.0))
        (own : buffer_at (Some cap) ≡ None)
        (not_lent : (q of key : ℕ) → buffer_at (get space.caps q) ≡ Some (of, key) → key_at (Some cap) ≢ Some key) where
      -- the part with the charge, and these dataspaces
      abbrev pub charged_part : Part
      charged_part = record { account = Some (charged (account_of p) n 1); spaces = spaces }

      module _ (new : (sessions : Sessions) → object_of L sessions charged_part cap ≡ Some object) (s : ℕ) (least : s ≡ new_selector space.caps) where
        -- the new selector named nothing before
        free_selector : get space.caps s ≡ None
        free_selector = rw least (new_selector_free space.caps)

        -- what was named keeps its object
        object_stays : (sessions : Sessions) (q : ℕ) (c : Cap) → get space.caps q ≡ Some c → object_of L sessions charged_part c ≡ object_of L sessions p c
        object_stays sessions q c there = object_alike L sessions p charged_part c (λ ds is. still ds.0 (is_held q ds (there ∙ ap (λ x. Some x) is)))

        -- it is no buffer's
        no_lending : (of : DsId) (session : Selector) → cap ≢ Buffer of session
        no_lending of session e = none-some (session.0, of.0) (sym own ∙ ap (λ c. buffer_at (Some c)) e)

        -- no selector named the new dataspace
        unnamed : (q key : ℕ) → key_at (Some cap) ≡ Some key → Names space.caps q key → ⊥
        unnamed q key new old = elim (own_or_lent (get space.caps q) key old) [
          | inl its ↦ elim (own_or_lent (Some cap) key new) [
            | inl mine ↦
                apart_from_free p.spaces mine.ds.0 its.ds.0 (fresh mine.ds (same_Some cap (Dataspace mine.ds) mine.is)) (is_held q its.ds its.is) (its.key_is ∙ sym mine.key_is)
            | inr mine ↦ no_lending mine.of mine.session (same_Some cap (Buffer mine.of mine.session) mine.is)
          ]
          | inr its ↦ not_lent q its.session.0 key (lent_key its) new
        ]

        -- a key is the new selector's
        new_key : (q key : ℕ) → q ≡ s → Names (insert space.caps s cap) q key → key_at (Some cap) ≡ Some key
        new_key q key at names = ap key_at (sym (get-insert_same space.caps s cap q at)) ∙ names

        -- or another's
        old_key : (q key : ℕ) → q ≢ s → Names (insert space.caps s cap) q key → Names space.caps q key
        old_key q key apart names = ap key_at (sym (get-insert_other space.caps s cap q apart)) ∙ names

        -- a dataspace still has one selector at most
        grown_one : IsOne (insert space.caps s cap)
        grown_one q t key first second = elim (cases_eq q s) [
          | inl here ↦ elim (cases_eq t s) [
            | inl too ↦ here ∙ sym too
            | inr old ↦ absurd (unnamed t key (new_key q key here first) (old_key t key old second))
          ]
          | inr old ↦ elim (cases_eq t s) [
            | inl here ↦ absurd (unnamed q key (new_key t key here second) (old_key q key old first))
            | inr too ↦ sound.named.one q t key (old_key q key old first) (old_key t key too second)
          ]
        ]

        -- each dataspace is there, and so is the new one
        grown_there : (q : ℕ) (ds : DsId) → get (insert space.caps s cap) q ≡ Some (Dataspace ds) → IsSome (get spaces ds.0)
        grown_there q ds there = elim (after_insert space.caps s cap q (Dataspace ds) there) [
          | inl here ↦ present ds (sym here.1)
          | inr old ↦ let held = is_held q ds old.1 in ap is_some (still ds.0 held) ∙ held
        ]

        -- the new selector names no block, and neither does another
        grown_unnamed : (start q : ℕ) (region : Region) (ds : DsId) → get regions.heap start ≡ Some region → get (insert space.caps s cap) q ≡ Some (Dataspace ds) → ds.0 ≢ region.of
        grown_unnamed start q region ds there names = elim (after_insert space.caps s cap q (Dataspace ds) names) [
          | inl here ↦ λ e. apart_from_free p.spaces ds.0 region.of (fresh ds (sym here.1)) (sound.blocks.held start region there) (sym e)
          | inr old ↦ sound.blocks.unnamed start q region ds there old.1
        ]

        -- the selector of a region's dataspace names what it did
        named_apart : (q start : ℕ) (region : Region) → get regions.user start ≡ Some region → selector_of space.caps region.of ≡ Some q → get (insert space.caps s cap) q ≡ get space.caps q
        named_apart q start region there names =
            get-insert_other space.caps s cap q (apart_from_free space.caps s q free_selector (ap is_some (cap_named (get space.caps q) region.of (is_named space.caps region.of q names)).1))

        -- the sessions stay
        grown_sessions : (q : ℕ) → session_at (get (insert space.caps s cap) q) ≡ session_at (get space.caps q)
        grown_sessions q = elim (cases_eq q s) [
          | inl at ↦ ap session_at (get-insert_same space.caps s cap q at) ∙ plain ∙ sym (ap session_at (ap (get space.caps) at ∙ free_selector))
          | inr apart ↦ ap session_at (get-insert_other space.caps s cap q apart)
        ]

        -- and so do the buffers
        grown_buffers : (q : ℕ) → buffer_at (get (insert space.caps s cap) q) ≡ buffer_at (get space.caps q)
        grown_buffers = alike_insert buffer_at space.caps s cap (own ∙ sym (ap buffer_at free_selector))

        -- and there are as many
        grown_count : total session_weight (insert space.caps s cap) ≡ total session_weight space.caps
        grown_count = omega (arith, total-insert_new session_weight space.caps s cap free_selector, no_weight cap plain own)

        -- the own state has the object under its new selector
        grown_own : (sessions : Sessions) → HasSessions sessions space.caps → own_of L sessions charged_part (insert space.caps s cap) regions.user heap sliced
            ≡ record (before sessions) { account = charged (before sessions).account n 1; selectors = insert (before sessions).selectors (new_selector (before sessions).selectors) object }
        unfolding own_of
        grown_own sessions ready =
            let names = picked-insert_some (object_of L sessions charged_part) space.caps s cap object (new sessions)
            ∙ ap (λ m. insert m s object) (picked_alike (object_of L sessions charged_part) (object_of L sessions p) space.caps (object_stays sessions))
            ∙ ap (λ k. insert (picked (object_of L sessions p) space.caps) k object) (least ∙ sym (same_new_selector sessions ready)) in
            let attached = regions_alike space.caps (insert space.caps s cap) regions.user grown_one sound.attached named_apart in
            λ i. record { account = charged (account_of p) n 1; reserve = no_reserve; selectors = names i; regions = attached i; heap = heap; sliced = sliced; gone = false }

        -- so a call that does this settles
        pub grows : ((sessions : Sessions) → script_step call (before sessions) ≡ record {
          reply = Selected (new_selector (before sessions).selectors);
          lines = [];
          next = record (before sessions) { account = charged (before sessions).account n 1; selectors = insert (before sessions).selectors (new_selector (before sessions).selectors) object };
        }) → Settles L call p space regions heap sliced (Selected s) charged_part (with_cap space s cap) regions
        grows is =
            let outcome : DoesOwn L call p space regions heap sliced (Selected s) charged_part (with_cap space s cap) regions heap sliced
            = λ sessions ready. (λ i. record { reply = Selected ((least ∙ sym (same_new_selector sessions ready)) i); lines = []; next = grown_own sessions ready i }) ∙ sym (is sessions) in
            let bytes : (start : ℕ) (region : Region) → get regions.heap start ≡ Some region → get spaces region.of ≡ get p.spaces region.of
            = (λ start region there. still region.of (sound.blocks.held start region there)) in
            let script : IsScript L charged_part (with_cap space s cap) regions heap sliced = record {
              named = record { there = grown_there; one = grown_one };
              paid = record {
                is_open = refl;
                named = omega (arith, len-insert_new space.caps s cap free_selector, sound.paid.named, grown_count);
                spare = omega (arith, counts, sound.paid.spare, total-insert_new rpc_weight space.caps s cap free_selector);
                placed = omega (arith, sound.paid.placed, grown_count);
              };
              ram = sound.ram;
              attached = attached_alike space.caps (insert space.caps s cap) regions.user grown_one sound.attached named_apart;
              most = sound.most;
              blocks = record { held = λ start region there. ap is_some (bytes start region there) ∙ sound.blocks.held start region there; unnamed = grown_unnamed };
              lawful = kept (Selected s) charged_part (with_cap space s cap) regions heap sliced grown_sessions outcome;
            } in
            record {
              makes = record { outcome = outcome; script = script; leaves = record { ram_limit = refl; caps_limit = refl; places = refl; sessions = grown_sessions; buffers = grown_buffers; session_count = grown_count } };
              spares = record { window = same_window; bytes = bytes };
            }

    -- ---- a capability that goes

    module _ (n : ℕ) (spaces : NatMap (List ℕ)) (cap : Cap) (s : ℕ) (there : get space.caps s ≡ Some cap) (regions' : Regions)
        (still : (q : ℕ) (ds : DsId) → get (remove space.caps s) q ≡ Some (Dataspace ds) → get spaces ds.0 ≡ get p.spaces ds.0)
        (left : (start : ℕ) (region : Region) → get regions'.user start ≡ Some region → (get regions.user start ≡ Some region) × (selector_of space.caps region.of ≢ Some s))
        (spared : (start : ℕ) (region : Region) → get regions.heap start ≡ Some region → get spaces region.of ≡ get p.spaces region.of)
        (counts : len spaces + 1 ≡ len p.spaces + rpc_weight cap) (most : regions'.most ≡ regions.most) (window : KeepsHeapWindow regions regions') (plain : session_at (Some cap) ≡ None)
        (own : buffer_at (Some cap) ≡ None) where
      -- the part with the credit, and these dataspaces
      abbrev pub credited_part : Part
      credited_part = record { account = Some (credited (account_of p) n 1); spaces = spaces }

      -- what is named still keeps its object
      object_left : (sessions : Sessions) (q : ℕ) (c : Cap) → get (remove space.caps s) q ≡ Some c → object_of L sessions credited_part c ≡ object_of L sessions p c
      object_left sessions q c here = object_alike L sessions p credited_part c (λ ds is. still q ds (here ∙ ap (λ x. Some x) is))

      -- a dataspace still has one selector at most
      shrunk_one : IsOne (remove space.caps s)
      shrunk_one q t key first second = sound.named.one q t key (key_before space.caps s q key first) (key_before space.caps s t key second)

      -- each region that is left had a dataspace that a selector names
      left_named : AreNamed space.caps regions'.user
      left_named start region here = sound.attached start region (left start region here).0

      -- and the selector names what it did
      left_apart : (q start : ℕ) (region : Region) → get regions'.user start ≡ Some region → selector_of space.caps region.of ≡ Some q → get (remove space.caps s) q ≡ get space.caps q
      left_apart q start region here names = get-remove_other space.caps s q (λ e. (left start region here).1 (names ∙ ap (λ k. Some k) e))

      -- the sessions stay
      shrunk_sessions : (q : ℕ) → session_at (get (remove space.caps s) q) ≡ session_at (get space.caps q)
      shrunk_sessions q = elim (cases_eq q s) [
        | inl at ↦ ap session_at (get-remove_same space.caps s q at) ∙ sym plain ∙ sym (ap session_at (ap (get space.caps) at ∙ there))
        | inr apart ↦ ap session_at (get-remove_other space.caps s q apart)
      ]

      -- and so do the buffers
      shrunk_buffers : (q : ℕ) → buffer_at (get (remove space.caps s) q) ≡ buffer_at (get space.caps q)
      shrunk_buffers = alike_remove buffer_at space.caps s (sym own ∙ sym (ap buffer_at there))

      -- and there are as many
      shrunk_count : total session_weight (remove space.caps s) ≡ total session_weight space.caps
      shrunk_count = omega (arith, total-remove session_weight space.caps s cap there, no_weight cap plain own)

      -- the own state has nothing under the selector
      shrunk_own : (sessions : Sessions) → own_of L sessions credited_part (remove space.caps s) regions'.user heap sliced
          ≡ record (before sessions) { account = credited (before sessions).account n 1; selectors = remove (before sessions).selectors s; regions = regions_of space.caps regions'.user }
      unfolding own_of
      shrunk_own sessions =
          let names = picked_alike (object_of L sessions credited_part) (object_of L sessions p) (remove space.caps s) (object_left sessions) ∙ picked-remove (object_of L sessions p) space.caps s in
          let attached = regions_alike space.caps (remove space.caps s) regions'.user shrunk_one left_named left_apart in
          λ i. record { account = credited (account_of p) n 1; reserve = no_reserve; selectors = names i; regions = attached i; heap = heap; sliced = sliced; gone = false }

      -- so a call that does this settles
      pub shrinks : ((sessions : Sessions) → script_step call (before sessions) ≡ record {
        reply = Done;
        lines = [];
        next = record (before sessions) { account = credited (before sessions).account n 1; selectors = remove (before sessions).selectors s; regions = regions_of space.caps regions'.user };
      }) → Settles L call p space regions heap sliced Done credited_part (without_cap space s) regions'
      shrinks is =
          let outcome : DoesOwn L call p space regions heap sliced Done credited_part (without_cap space s) regions' heap sliced
          = λ sessions ready. (λ i. record { reply = Done; lines = []; next = shrunk_own sessions i }) ∙ sym (is sessions) in
          let shorter = len-remove_at space.caps s cap there in
          let script : IsScript L credited_part (without_cap space s) regions' heap sliced = record {
            named = record { there = λ q ds here. ap is_some (still q ds here) ∙ is_held q ds (before_remove space.caps s q (Dataspace ds) here); one = shrunk_one };
            paid = record {
              is_open = refl;
              named = omega (arith, shorter, sound.paid.named, shrunk_count);
              spare = omega (arith, counts, sound.paid.spare, total-remove rpc_weight space.caps s cap there);
              placed = omega (arith, sound.paid.placed, shrunk_count);
            };
            ram = rw window.pages sound.ram;
            attached = attached_alike space.caps (remove space.caps s) regions'.user shrunk_one left_named left_apart;
            most = most ∙ sound.most;
            blocks = rw window.heap (record {
              held = λ start region here. ap is_some (spared start region here) ∙ sound.blocks.held start region here;
              unnamed = λ start q region ds here names. sound.blocks.unnamed start q region ds here (before_remove space.caps s q (Dataspace ds) names);
            });
            lawful = kept Done credited_part (without_cap space s) regions' heap sliced shrunk_sessions outcome;
          } in
          record {
            makes = record { outcome = outcome; script = script; leaves = record { ram_limit = refl; caps_limit = refl; places = refl; sessions = shrunk_sessions; buffers = shrunk_buffers; session_count = shrunk_count } };
            spares = record { window = window; bytes = spared };
          }

    -- ---- other regions

    -- a call that changes the regions settles, if selectors name their dataspaces
    pub remaps : (regions' : Regions) (reply : Reply) → regions'.most ≡ regions.most → KeepsHeapWindow regions regions' → AreNamed space.caps regions'.user →
        DoesOwn L call p space regions heap sliced reply p space regions' heap sliced → Settles L call p space regions heap sliced reply p space regions'
    remaps regions' reply most window attached is = record {
      makes = record {
        outcome = is;
        script = record {
          named = sound.named;
          paid = sound.paid;
          ram = rw window.pages sound.ram;
          attached = attached;
          most = most ∙ sound.most;
          blocks = rw window.heap sound.blocks;
          lawful = kept reply p space regions' heap sliced (λ q. refl) is;
        };
        leaves = record { ram_limit = refl; caps_limit = refl; places = refl; sessions = λ q. refl; buffers = λ q. refl; session_count = refl };
      };
      spares = record { window = window; bytes = λ start region there. refl };
    }

    -- ---- other bytes

    module _ (ds : DsId) (s : ℕ) (over : List ℕ) (names : get space.caps s ≡ Some (Dataspace ds)) where
      -- the part has the bytes that are written over
      has : get p.spaces ds.0 ≡ Some (bytes_of p ds.0)
      has = has_bytes s ds names

      -- the part with other bytes of the dataspace
      abbrev pub written : Part
      written = record p { spaces = insert p.spaces ds.0 over }

      -- other selectors keep their objects
      object_other : (sessions : Sessions) (q : ℕ) (c : Cap) → q ≢ s → get space.caps q ≡ Some c → object_of L sessions written c ≡ object_of L sessions p c
      object_other sessions q c apart there = object_alike L sessions p written c (λ d is.
          get-insert_other p.spaces ds.0 over d.0 (λ e. apart (sound.named.one q s ds.0 (ap key_at (there ∙ ap (λ x. Some x) is) ∙ ap (λ k. Some k) e) (ap key_at names))))

      -- the dataspace's selector names the new bytes
      object_here : (sessions : Sessions) (q : ℕ) → q ≡ s → option_and_then (object_of L sessions written) (get space.caps q) ≡ Some (ADataspace over)
      object_here sessions q at =
          ap (option_and_then (object_of L sessions written)) (ap (get space.caps) at ∙ names) ∙ ap (option_map ADataspace) (get-insert_same p.spaces ds.0 over ds.0 refl)

      -- and the others what they did
      written_at : (sessions : Sessions) (q : ℕ) → get (picked (object_of L sessions written) space.caps) q ≡ get (insert (picked (object_of L sessions p) space.caps) s (ADataspace over)) q
      written_at sessions q = get-picked (object_of L sessions written) space.caps q ∙ (elim (cases_eq q s) [
        | inl at ↦ object_here sessions q at ∙ sym (get-insert_same (picked (object_of L sessions p) space.caps) s (ADataspace over) q at)
        | inr apart ↦
            and_then_alike (object_of L sessions written) (object_of L sessions p) (get space.caps q) (λ c there. object_other sessions q c apart there)
            ∙ sym (get-picked (object_of L sessions p) space.caps q) ∙ sym (get-insert_other (picked (object_of L sessions p) space.caps) s (ADataspace over) q apart)
      ])

      -- each dataspace is there still
      written_there : (q : ℕ) (d : DsId) → get space.caps q ≡ Some (Dataspace d) → IsSome (get written.spaces d.0)
      written_there q d there = elim (cases_eq d.0 ds.0) [
        | inl at ↦ ap is_some (get-insert_same p.spaces ds.0 over d.0 at)
        | inr apart ↦ ap is_some (get-insert_other p.spaces ds.0 over d.0 apart) ∙ is_held q d there
      ]

      -- so a call that does this settles
      pub rewrites : ((sessions : Sessions) → script_step call (before sessions) ≡ record { reply = Done; lines = []; next = record (before sessions) { selectors = insert (before sessions).selectors s (ADataspace over) } }) →
          Settles L call p space regions heap sliced Done written space regions
      unfolding own_of
      rewrites is =
          let outcome : DoesOwn L call p space regions heap sliced Done written space regions heap sliced
          = λ sessions ready. (λ i. record { reply = Done; lines = []; next = record (before sessions) { selectors = same _ _ (written_at sessions) i } }) ∙ sym (is sessions) in
          let bytes : (start : ℕ) (region : Region) → get regions.heap start ≡ Some region → get written.spaces region.of ≡ get p.spaces region.of
          = (λ start region there. get-insert_other p.spaces ds.0 over region.of (λ e. sound.blocks.unnamed start s region ds there names (sym e))) in
          let script : IsScript L written space regions heap sliced = record {
            named = record { there = written_there; one = sound.named.one };
            paid = record {
              is_open = sound.paid.is_open;
              named = sound.paid.named;
              spare = omega (arith, sound.paid.spare, len-insert_at p.spaces ds.0 over (bytes_of p ds.0) has);
              placed = sound.paid.placed;
            };
            ram = sound.ram;
            attached = sound.attached;
            most = sound.most;
            blocks = record { held = λ start region there. ap is_some (bytes start region there) ∙ sound.blocks.held start region there; unnamed = sound.blocks.unnamed };
            lawful = kept Done written space regions heap sliced (λ q. refl) outcome;
          } in
          record {
            makes = record { outcome = outcome; script = script; leaves = record { ram_limit = refl; caps_limit = refl; places = refl; sessions = λ q. refl; buffers = λ q. refl; session_count = refl } };
            spares = record { window = same_window; bytes = bytes };
          }

    -- ---- other blocks

    module _ (p' : Part) (regions' : Regions) (heap' : OwnHeap) (sliced' : NatMap (List ℕ)) (reply : Reply)
        (still : (q : ℕ) (ds : DsId) → get space.caps q ≡ Some (Dataspace ds) → get p'.spaces ds.0 ≡ get p.spaces ds.0)
        (user : regions'.user ≡ regions.user) (most : regions'.most ≡ regions.most) (pages : regions'.pages ≡ regions.pages)
        (is_open : IsSome p'.account) (ram_limit : (account_of p').ram_limit ≡ (account_of p).ram_limit) (caps_limit : (account_of p').caps_limit ≡ (account_of p).caps_limit)
        (spare : len p'.spaces + total rpc_weight space.caps ≤ (account_of p').caps_used) (blocks : AreBlocks p' space.caps regions'.heap) where
      -- what is named keeps its object
      object_kept : (sessions : Sessions) (q : ℕ) (c : Cap) → get space.caps q ≡ Some c → object_of L sessions p' c ≡ object_of L sessions p c
      object_kept sessions q c there = object_alike L sessions p p' c (λ ds is. still q ds (there ∙ ap (λ x. Some x) is))

      -- a call that changes the account and the heaps alone settles
      pub slices : ((sessions : Sessions) → script_step call (before sessions) ≡ record { reply = reply; lines = []; next = record (before sessions) { account = account_of p'; heap = heap'; sliced = sliced' } }) →
          Makes L call p space regions heap sliced reply p' space regions' heap' sliced'
      unfolding own_of
      slices is =
          let selectors : (sessions : Sessions) → picked (object_of L sessions p') space.caps ≡ picked (object_of L sessions p) space.caps
          = λ sessions. picked_alike (object_of L sessions p') (object_of L sessions p) space.caps (object_kept sessions) in
          let attached = ap (regions_of space.caps) user in
          let outcome : DoesOwn L call p space regions heap sliced reply p' space regions' heap' sliced'
          = λ sessions ready. (λ i. record { reply = reply; lines = []; next = record { account = account_of p'; reserve = no_reserve; selectors = selectors sessions i; regions = attached i; heap = heap'; sliced = sliced'; gone = false } }) ∙ sym (is sessions) in
          let lawful = kept reply p' space regions' heap' sliced' (λ q. refl) outcome in
          let was = sound.lawful all_sessions (λ q server session there. refl) in
          let now = lawful all_sessions (λ q server session there. refl) in record {
            outcome = outcome;
            script = record {
              named = record { there = λ q ds there. ap is_some (still q ds there) ∙ is_held q ds there; one = sound.named.one };
              paid = record {
                is_open = is_open;
                named = omega (arith, now.uses.caps, was.uses.caps, ap (total object_caps) (selectors all_sessions), sound.paid.named);
                spare = spare;
                placed = omega (arith, caps_limit, sound.paid.placed);
              };
              ram = rw (ram_limit, pages) sound.ram;
              attached = rw user sound.attached;
              most = most ∙ sound.most;
              blocks = blocks;
              lawful = lawful;
            };
            leaves = record { ram_limit = ram_limit; caps_limit = caps_limit; places = refl; sessions = λ q. refl; buffers = λ q. refl; session_count = refl };
          }

-- ---- over the memory

-- what the payer's part becomes is what its account's part becomes
pub for_payer : {payer account : ℕ} {old new : Store} (change : Part → Part) → payer ≡ account → PartBecomes payer (change (part payer old)) old new → PartBecomes account (change (part account old)) old new
for_payer {old = old} {new} change same becomes = subst (λ a. PartBecomes a (change (part a old)) old new) same becomes

-- the pages of a dataspace are those of its bytes in the part
pub pages_are : (store : Store) (account ds : ℕ) → get (part account store).spaces ds ≡ Some (bytes_of (part account store) ds) → (n : ℕ) → n ≡ pages_in (space_at store ds).bytes →
    n ≡ pages_in (bytes_of (part account store) ds)
pages_are store account ds has n size = size ∙ ap pages_in (paid_in_part account ds _ store has).bytes_are
