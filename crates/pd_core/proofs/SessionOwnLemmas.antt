-- What calls of sessions do to a script's own state.
use Rattle.std.proofs.Common.{cond, ◌≡◌, ◌≢◌, ℕ, ◌+◌, ◌*◌, ◌≤◌, false, List, [], ◌∷◌, Some, IsSome, unwrap_or, refl, sym, ap, subst, ◌∙◌, arith, inl, inr}
use Rattle.std.proofs.lemmas.Bool.{cases_eq}
use Rattle.std.proofs.lemmas.Option.{none-some, same_Some}
use Rattle.std.specs.Prelude.{Option, None}
use Rattle.std.specs.Option.{option_map, option_and_then}
use Rattle.std.specs.FinMap.{get, len}
use Rattle.trade_base.specs.declared.id.DsId.{DsId}
use Rattle.trade_base.specs.declared.refusal.Refusal.TheVariants.{Gone}
use Rattle.own_model.specs.Call.{Call}
use Rattle.own_model.specs.NatMap.{NatMap, picked, total}
use Rattle.own_model.specs.OwnHeap.{OwnHeap}
use Rattle.own_model.specs.OwnState.{OwnState, named_bytes}
use Rattle.own_model.specs.OwnState.Object.{OpenSession}
use Rattle.own_model.specs.OwnStep.{Outcome, own_step, entry_step, unless, turned_away}
use Rattle.own_model.specs.Region.{Region, without}
use Rattle.own_model.specs.Session.{Session as AnOpenSession}
use Rattle.own_model.specs.StartList.{Entry}
use Rattle.own_model.specs.StartList.Kind.{Script as AScript}
use Rattle.own_model.specs.Use.{object_size, object_caps}
use Rattle.own_model.proofs.NatMapLemmas.{some_of, get-picked}
use Rattle.own_model.proofs.RegionLemmas.{left_without}
use Rattle.own_model.proofs.Totals.{total_same, total-picked}
use Rattle.own_model.proofs.StepSoundLemmas.{step_sound}
use Rattle.own_model.proofs.StepUseLemmas.{run_uses}
use Rattle.own_model.proofs.StepLimitLemmas.{step_within}
use Rattle.cap_space.specs.declared.cap.Cap.{Cap}
use Rattle.cap_space.specs.declared.cap.Cap.TheVariants.{Dataspace, RpcObject, Session, Buffer}
use Rattle.cap_space.specs.Space.{Space}
use Rattle.region_map.specs.Regions.{Regions}
use Rattle.dataspace_core.specs.Store.{Part, account_of}
use Rattle.pd_core.specs.Own.{Sessions, object_of, selector_of, regions_of, own_of, Lent, key_at}
use Rattle.pd_core.specs.Sound.{rpc_weight, session_weight, buffer_at, IsOne, AreNamed, IsLawful, IsScript}
use Rattle.pd_core.specs.Sessions.{IsLentAt}
use Rattle.pd_core.proofs.ScriptNameLemmas.{is_named, buffer_key, regions_alike, attached_alike, Names}

-- ---- which sessions there are makes no difference to what is lawful

-- a session has no size, and costs its client no capability
nothing : (o : Option AnOpenSession) → unwrap_or (option_map object_size (option_map OpenSession o)) 0 ≡ 0
nothing None = refl
nothing (Some session) = refl

costless : (o : Option AnOpenSession) → unwrap_or (option_map object_caps (option_map OpenSession o)) 0 ≡ 0
costless None = refl
costless (Some session) = refl

-- nor has it bytes
no_bytes : (o : Option AnOpenSession) → named_bytes (option_map OpenSession o) ≡ None
no_bytes None = refl
no_bytes (Some session) = refl

no_size : (L : Lent) (S S' : Sessions) (p : Part) (cap : Cap) → unwrap_or (option_map object_size (object_of L S' p cap)) 0 ≡ unwrap_or (option_map object_size (object_of L S p cap)) 0
no_size L S S' p (Dataspace ds) = refl
no_size L S S' p RpcObject = refl
no_size L S S' p (Buffer space session) = refl
no_size L S S' p (Session server session) = nothing (S' server session.0) ∙ sym (nothing (S server session.0))

no_caps : (L : Lent) (S S' : Sessions) (p : Part) (cap : Cap) → unwrap_or (option_map object_caps (object_of L S' p cap)) 0 ≡ unwrap_or (option_map object_caps (object_of L S p cap)) 0
no_caps L S S' p (Dataspace ds) = refl
no_caps L S S' p RpcObject = refl
no_caps L S S' p (Buffer space session) = refl
no_caps L S S' p (Session server session) = costless (S' server session.0) ∙ sym (costless (S server session.0))

-- an object has its bytes whatever the sessions are
bytes_still : (L : Lent) (S S' : Sessions) (p : Part) (o : Option Cap) → named_bytes (option_and_then (object_of L S' p) o) ≡ named_bytes (option_and_then (object_of L S p) o)
bytes_still L S S' p None = refl
bytes_still L S S' p (Some (Dataspace ds)) = refl
bytes_still L S S' p (Some RpcObject) = refl
bytes_still L S S' p (Some (Buffer space session)) = refl
bytes_still L S S' p (Some (Session server session)) = no_bytes (S' server session.0) ∙ sym (no_bytes (S server session.0))

module _ (L : Lent) (p : Part) (caps : NatMap Cap) (user : NatMap Region) (heap : OwnHeap) (sliced : NatMap (List ℕ)) (S S' : Sessions) where
  selectors_still : (q : ℕ) → named_bytes (get (picked (object_of L S' p) caps) q) ≡ named_bytes (get (picked (object_of L S p) caps) q)
  selectors_still q = ap named_bytes (get-picked (object_of L S' p) caps q) ∙ bytes_still L S S' p (get caps q) ∙ ap named_bytes (sym (get-picked (object_of L S p) caps q))

  size_same : total object_size (picked (object_of L S' p) caps) ≡ total object_size (picked (object_of L S p) caps)
  size_same = total-picked object_size (object_of L S' p) caps ∙ total_same _ _ caps (λ k cap there. no_size L S S' p cap) ∙ sym (total-picked object_size (object_of L S p) caps)

  caps_same : total object_caps (picked (object_of L S' p) caps) ≡ total object_caps (picked (object_of L S p) caps)
  caps_same = total-picked object_caps (object_of L S' p) caps ∙ total_same _ _ caps (λ k cap there. no_caps L S S' p cap) ∙ sym (total-picked object_caps (object_of L S p) caps)

  pub lawful_whichever : IsLawful (own_of L S p caps user heap sliced) → IsLawful (own_of L S' p caps user heap sliced)
  unfolding own_of
  lawful_whichever law = record {
    sound = record {
      whole = λ q bytes is. law.sound.whole q bytes (sym (selectors_still q) ∙ is);
      mapped = record {
        named = λ start region there.
            let its = law.sound.mapped.named start region there in
            record { bytes = its.bytes; there = selectors_still region.of ∙ its.there; pages = its.pages };
        lie = law.sound.mapped.lie;
        few = law.sound.mapped.few;
      };
      blocks = law.sound.blocks;
      heap_parts = law.sound.heap_parts;
      starts = law.sound.starts;
      heap = law.sound.heap;
    };
    uses = record {
      ram = omega (arith, law.uses.ram, size_same);
      caps = omega (arith, law.uses.caps, caps_same);
    };
    within = law.within;
  }

-- ---- the steps of the model keep what is lawful

-- a script that hasn't exited isn't turned away
pub is_step : (entry : Entry) (call : Call) (s : OwnState) → entry.kind ≡ AScript → s.gone ≡ false → own_step entry call s ≡ entry_step entry call s
is_step entry call s script here =
    ap (λ k. unless (turned_away k s) s (entry_step entry call s)) script
    ∙ ap (λ b. unless (cond b (Some Gone) None) s (entry_step entry call s)) here

pub lawful_step : (entry : Entry) (call : Call) (s : OwnState) → entry.kind ≡ AScript → s.gone ≡ false → IsLawful s → IsLawful (entry_step entry call s).next
lawful_step entry call s script here law =
    subst (λ (o : Outcome). IsLawful o.next) (is_step entry call s script here) (record {
      sound = step_sound entry call s law.sound;
      uses = run_uses entry (call ∷ []) s law.uses;
      within = step_within entry call s law.within;
    })

-- ---- what a call of a session makes of its client's tables

-- the user regions after it: those of what a session lent and lends no more go
abbrev pub regions_after : Option ℕ → Option ℕ → NatMap Region → NatMap Region
regions_after (Some key) None user = without key user
regions_after (Some key) (Some other) user = user
regions_after None lent user = user

-- where as much is lent they stay
pub regions_same : (lent : Option ℕ) (user : NatMap Region) → regions_after lent lent user ≡ user
regions_same None user = refl
regions_same (Some key) user = refl

-- the selector named no dataspace, its own or lent, and names none
pub record AreNoSpaces (caps caps' : NatMap Cap) (selector : ℕ) : Type 0 where
  pub before : key_at (get caps selector) ≡ None
  pub after : key_at (get caps' selector) ≡ None

-- two selectors change, that of a session and that of what it lends, and the regions of that: the session is no dataspace, what
-- is lent still is what was lent, and what comes to be lent no other selector names
pub record TurnsTables (caps caps' : NatMap Cap) (user user' : NatMap Region) (q k : ℕ) (lent lent' : Option ℕ) : Type 0 where
  pub others : (s : ℕ) → s ≢ q → s ≢ k → get caps' s ≡ get caps s
  pub no_spaces : AreNoSpaces caps caps' q
  pub before : IsLentAt caps q k lent
  pub after : IsLentAt caps' q k lent'
  pub kept : (a b : ℕ) → lent ≡ Some a → lent' ≡ Some b → get caps' k ≡ get caps k
  pub fresh : (s key : ℕ) → lent' ≡ Some key → s ≢ k → Names caps s key → ⊥
  pub regions : user' ≡ regions_after lent lent' user

-- what is at the selector of what is lent is a buffer of that, and no dataspace of the script's own
pub lent_names : {caps : NatMap Cap} {q k : ℕ} (lent : Option ℕ) → IsLentAt caps q k lent → key_at (get caps k) ≡ lent
lent_names None at = ap key_at (at.free refl)
lent_names {caps} {q} {k} (Some key) at = buffer_key (get caps k) q key at.has

not_own : (o : Option Cap) (q key : ℕ) (ds : DsId) → buffer_at o ≡ Some (q, key) → o ≢ Some (Dataspace ds)
not_own o q key ds has is = none-some (q, key) (sym (ap buffer_at is) ∙ has)

lent_own : {caps : NatMap Cap} {q k : ℕ} (lent : Option ℕ) → IsLentAt caps q k lent → (ds : DsId) → get caps k ≢ Some (Dataspace ds)
lent_own None at ds is = none-some (Dataspace ds) (sym (at.free refl) ∙ is)
lent_own {caps} {q} {k} (Some key) at ds is = not_own (get caps k) q key ds at.has is

module _ {caps caps' : NatMap Cap} {user user' : NatMap Region} {q k : ℕ} {lent lent' : Option ℕ} (turns : TurnsTables caps caps' user user' q k lent lent') where
  -- another selector names the dataspace
  not_it : (s key : ℕ) → Names caps' s key → s ≢ q
  not_it s key is here = none-some key (sym turns.no_spaces.after ∙ ap (λ n. key_at (get caps' n)) (sym here) ∙ is)

  -- one of the script's own was named before
  pub was_named : (s : ℕ) (ds : DsId) → get caps' s ≡ Some (Dataspace ds) → get caps s ≡ Some (Dataspace ds)
  was_named s ds is =
      sym (turns.others s (not_it s ds.0 (ap key_at is)) (λ e. lent_own lent' turns.after ds (ap (get caps') (sym e) ∙ is))) ∙ is

  -- a key beside what is lent was a selector's before
  named_before : (s key : ℕ) → s ≢ k → Names caps' s key → Names caps s key
  named_before s key apart is = sym (ap key_at (turns.others s (not_it s key is) apart)) ∙ is

  -- what is at the selector of what is lent no other names
  not_lent : (s t key : ℕ) → s ≡ k → t ≢ k → Names caps' s key → Names caps' t key → ⊥
  not_lent s t key at apart one two =
      turns.fresh t key (sym (lent_names lent' turns.after) ∙ ap (λ n. key_at (get caps' n)) (sym at) ∙ one) apart (named_before t key apart two)

  module _ (one : IsOne caps) where
    -- each dataspace has one selector still
    pub one_still : IsOne caps'
    one_still s t key at bt = elim (cases_eq s k) [
      | inl here ↦ elim (cases_eq t k) [
        | inl too ↦ here ∙ sym too
        | inr apart ↦ absurd (not_lent s t key here apart at bt)
      ]
      | inr apart ↦ elim (cases_eq t k) [
        | inl here ↦ absurd (not_lent t s key here apart bt at)
        | inr beside ↦ one s t key (named_before s key apart at) (named_before t key beside bt)
      ]
    ]

    -- a region that is left was there, and is of nothing that is lent no more
    left_of : (lent lent' : Option ℕ) (start : ℕ) (region : Region) → get (regions_after lent lent' user) start ≡ Some region → get user start ≡ Some region
    left_of None lent' start region there = there
    left_of (Some key) (Some other) start region there = there
    left_of (Some key) None start region there = (left_without key user start region there).0

    left_named : (lent lent' : Option ℕ) (start key : ℕ) (region : Region) → get (regions_after lent lent' user) start ≡ Some region → lent ≡ Some key → region.of ≡ key → IsSome lent'
    left_named None lent' start key region there is same = absurd (none-some key is)
    left_named (Some a) (Some b) start key region there is same = refl
    left_named (Some a) None start key region there is same = absurd ((left_without a user start region there).1 (same ∙ sym (same_Some a key is)))

    module _ (attached : AreNamed caps user) where
      left : (start : ℕ) (region : Region) → get user' start ≡ Some region → get user start ≡ Some region
      left start region there = left_of lent lent' start region (ap (λ (m : NatMap Region). get m start) (sym turns.regions) ∙ there)

      left_attached : AreNamed caps user'
      left_attached start region there = attached start region (left start region there)

      -- the selector of such a region has what it had
      same_names : (s start : ℕ) (region : Region) → get user' start ≡ Some region → selector_of caps region.of ≡ Some s → get caps' s ≡ get caps s
      same_names s start region there is = elim (cases_eq s k) [
        | inl at ↦
            let lends = sym (lent_names lent turns.before) ∙ ap (λ n. key_at (get caps n)) (sym at) ∙ is_named caps region.of s is in
            let still = some_of lent' (left_named lent lent' start region.of region (ap (λ (m : NatMap Region). get m start) (sym turns.regions) ∙ there) lends refl) in
            ap (get caps') at ∙ turns.kept region.of still.0 lends still.1 ∙ ap (get caps) (sym at)
        | inr apart ↦ turns.others s (λ here. none-some region.of (sym turns.no_spaces.before ∙ ap (λ n. key_at (get caps n)) (sym here) ∙ is_named caps region.of s is)) apart
      ]

      -- so each region has its name
      pub attached_still : AreNamed caps' user'
      attached_still = attached_alike caps caps' user' one_still left_attached same_names

      -- and under the names they are those before, without those of what is lent no more
      pub regions_turn : regions_of caps' user' ≡ regions_of caps (regions_after lent lent' user)
      regions_turn = regions_alike caps caps' user' one_still left_attached same_names ∙ ap (regions_of caps) turns.regions

-- ---- a script stays one

-- what of a script's numbers has to be so after a call of a session
pub record AreCounted (p p' : Part) (space space' : Space) (regions : Regions) : Type 0 where
  pub open_still : IsSome p'.account
  pub spaces : p'.spaces ≡ p.spaces
  pub used : (account_of p').caps_used ≡ (account_of p).caps_used
  pub places : space'.places ≡ space.places
  pub sessions : len space'.caps + total session_weight space.caps ≡ len space.caps + total session_weight space'.caps
  pub rpcs : total rpc_weight space'.caps ≡ total rpc_weight space.caps
  pub placed : (account_of p').caps_limit + total session_weight space'.caps ≤ space'.places
  pub ram : (account_of p').ram_limit ≤ regions.pages * 4096

pub script_with : {L L' : Lent} (p p' : Part) (space space' : Space) (regions : Regions) (user' : NatMap Region) (heap : OwnHeap) (sliced : NatMap (List ℕ)) {q k : ℕ} {lent lent' : Option ℕ} → IsScript L p space regions heap sliced →
    TurnsTables space.caps space'.caps regions.user user' q k lent lent' → AreCounted p p' space space' regions →
    ((S : Sessions) → IsLawful (own_of L' S p' space'.caps user' heap sliced)) → IsScript L' p' space' (record regions { user = user' }) heap sliced
script_with p p' space space' regions user' heap sliced script turns counted lawful = record {
  named = record {
    there = λ s ds is. subst (λ (m : NatMap (List ℕ)). IsSome (get m ds.0)) (sym counted.spaces) (script.named.there s ds (was_named turns s ds is));
    one = one_still turns script.named.one;
  };
  paid = record {
    is_open = counted.open_still;
    named = omega (arith, script.paid.named, counted.used, counted.sessions);
    spare = let spaces = ap len counted.spaces in omega (arith, script.paid.spare, counted.used, counted.rpcs, spaces);
    placed = counted.placed;
  };
  ram = counted.ram;
  attached = attached_still turns script.named.one script.attached;
  most = script.most;
  blocks = record {
    held = λ start region there. subst (λ (m : NatMap (List ℕ)). IsSome (get m region.of)) (sym counted.spaces) (script.blocks.held start region there);
    unnamed = λ start s region ds there is. script.blocks.unnamed start s region ds there (was_named turns s ds is);
  };
  lawful = λ S ready. lawful S;
}
