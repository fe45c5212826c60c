-- A change of the core, whichever call makes it: what it has to say of the caller, of the one session that it touches and of
-- the accounts, and that the core stays sound.
use Rattle.std.proofs.Common.{◌≡◌, ◌≢◌, ℕ, zero, suc, ◌≤◌, false, true, Some, refl, sym, ap, subst, ◌∙◌, inl, inr, None}
use Rattle.std.proofs.lemmas.Bool.{cases_eq}
use Rattle.std.proofs.lemmas.Option.{none-some}
use Rattle.std.specs.FinMap.{get}
use Rattle.std.specs.Option.{option_map}
use Rattle.std.specs.Prelude.{◌⊎◌, Option, IfSome}
use Rattle.own_model.specs.Limits.{caps_limits}
use Rattle.own_model.specs.NatMap.{NatMap}
use Rattle.own_model.specs.OwnState.{OwnState}
use Rattle.own_model.specs.Session.{Labelled}
use Rattle.cap_space.specs.declared.cap.Cap.{Cap}
use Rattle.dataspace_core.specs.Room.{HasRoom}
use Rattle.dataspace_core.specs.Store.{Store, part, account_of, opened_part, parents_in, root_in, IsOpenIn, IsChildIn}
use Rattle.server_frame.specs.Frame.{Row}
use Rattle.trade_base.specs.declared.id.SessionId.{SessionId}
use Rattle.pd_core.specs.Component.{Pays, payer_in, reserve_in, IsReserve, caps_in, places_in, own_in, lent_of, lent_by, NamesItsSessions, HasPlaces, IsSoundRole}
use Rattle.pd_core.specs.Core.{Heads, Places, Roles, rows_at, sessions_in, Owner, Owns, HaveOneOwner, NamesAccount, IsInitOf, IsInits, IsSoundCore}
use Rattle.pd_core.specs.Exit.{IsScriptRole}
use Rattle.pd_core.specs.SessionCalls.{IsBelowParentInit}
use Rattle.pd_core.proofs.ComponentLemmas.{pays_is}
use Rattle.pd_core.specs.Core.Owner.{Init, Place, ReserveAt, SessionAt}
use Rattle.pd_core.specs.Own.{Sessions}
use Rattle.pd_core.specs.Sessions.{row_session}
use Rattle.pd_core.specs.Sound.{session_at, buffer_at}
use Rattle.pd_core.specs.declared.component.Role.{Role}
use Rattle.pd_core.proofs.CoreHeldLemmas.{same_place, client_pays, reserve_pays, script_no_init, script_head, below_init, init_below}

-- ---- what a change has to say

-- the sessions that these capabilities name are the same
abbrev pub AgreeOn : NatMap Cap → Sessions → Sessions → Type 0
AgreeOn caps S S' = (q server : ℕ) (session : SessionId) → session_at (get caps q) ≡ Some (server, session) → S' server session.0 ≡ S server session.0

-- an account has the part and the parent that it had
pub record Rests (account : ℕ) (store store' : Store) : Type 0 where
  pub own : part account store' ≡ part account store
  pub parent : get (parents_in store') account ≡ get (parents_in store) account

-- each init's account has the part that it had
abbrev pub InitsRest : Roles → Store → Store → Type 0
InitsRest roles store store' = (account : ℕ) → IsInits store roles account → part account store' ≡ part account store

-- so has a role's reserve, if it has one
abbrev pub ReserveRests : Role → Store → Store → Type 0
ReserveRests role store store' = (account : ℕ) → reserve_in role ≡ Some account → part account store' ≡ part account store

-- so has each account except two
abbrev pub AllRestBut : ℕ → ℕ → Store → Store → Type 0
AllRestBut one two store store' = (account : ℕ) → account ≢ one → account ≢ two → part account store' ≡ part account store

-- a role is another's after the change: it is sound, is an init where that is one, and has its accounts, its capabilities and its
-- own state, and its reserve rests
pub record Follows (store : Store) (before : Role) (store' : Store) (after : Role) : Type 0 where
  pub sound : IsSoundRole store' after
  pub own : (S S' : Sessions) → AgreeOn (caps_in before) S S' → own_in S' store' after ≡ own_in S store before
  pub caps : caps_in after ≡ caps_in before
  pub places : places_in after ≡ places_in before
  pub pays : (account : ℕ) → Pays after account → Pays before account
  pub paid : (account : ℕ) → Pays before account → Pays after account
  pub inits : (account : ℕ) → IsInitOf before account → IsInitOf after account
  pub reserve : reserve_in after ≡ reserve_in before
  pub reserved : (account : ℕ) → reserve_in before ≡ Some account → Rests account store store'

-- a role without a reserve follows itself where it is sound and has the own state that it had
pub follows_itself : {store store' : Store} (role : Role) → reserve_in role ≡ None → IsSoundRole store' role → ((S S' : Sessions) → AgreeOn (caps_in role) S S' → own_in S' store' role ≡ own_in S store role) → Follows store role store' role
follows_itself role none sound own = record {
  sound = sound;
  own = own;
  caps = refl;
  places = refl;
  pays = λ a pays. pays;
  paid = λ a pays. pays;
  inits = λ a is. is;
  reserve = refl;
  reserved = λ a is. absurd (none-some a (sym none ∙ is));
}

-- each role except one follows the one at its place
abbrev pub OthersFollow : ℕ → Store → Roles → Store → Roles → Type 0
OthersFollow i store roles store' roles' = (k : ℕ) → k ≢ i → Follows store (roles k) store' (roles' k)

-- the row of the session that a change touches: a client's before and after, on an account that nobody else had
pub record IsTouched (store : Store) (roles : Roles) (i server id : ℕ) (was is : Option (Row Labelled)) : Type 0 where
  pub was_its : (row : Row Labelled) → was ≡ Some row → Pays (roles i) row.client
  pub is_its : (row : Row Labelled) → is ≡ Some row → Pays (roles i) row.client
  pub alone : (account : ℕ) → option_map (λ (row : Row Labelled). row.key) is ≡ Some account → (owner : Owner) → Owns store roles owner account → owner ≡ SessionAt server id

-- the script at a place changes, and perhaps one session of it, under a key of the server at another place; the other roles
-- follow theirs. An account that is below another was so before, or is below the caller's, where a selector names its session
pub record ChangesCore (heads : Heads) (i s key : ℕ) (store : Store) (roles : Roles) (store' : Store) (roles' : Roles) : Type 0 where
  pub script : IsScriptRole (roles i)
  pub others : OthersFollow i store roles store' roles'
  pub sound : IsSoundRole store' (roles' i)
  pub pays : (account : ℕ) → Pays (roles' i) account → Pays (roles i) account
  pub reserve : (account : ℕ) → reserve_in (roles' i) ≡ Some account → reserve_in (roles i) ≡ Some account
  pub reserved : (account : ℕ) → reserve_in (roles' i) ≡ Some account → IsReserve store' (payer_in (roles' i)) account
  pub rows : (server id : ℕ) → ((server ≡ s) → (id ≡ key) → ⊥) → get (rows_at store' roles' server) id ≡ get (rows_at store roles server) id
  pub row : (get (rows_at store' roles' s) key ≡ get (rows_at store roles s) key) ⊎ IsTouched store roles i s key (get (rows_at store roles s) key) (get (rows_at store' roles' s) key)
  pub named : NamesItsSessions (rows_at store' roles') (roles' i)
  pub held : (child parent : ℕ) → Pays (roles i) parent → IsChildIn store' child parent → NamesAccount (rows_at store' roles') (roles' i) child parent
  pub placed : HasPlaces (sessions_in store' roles') store' (roles' i)
  pub init : IsOpenIn store' (root_in store)
  pub root : root_in store' ≡ root_in store
  pub children : (k account : ℕ) → Pays (roles k) account → Pays (roles' k) account → get (parents_in store') account ≡ get (parents_in store) account
  pub parents : (child parent : ℕ) → IsChildIn store' child parent → Pays (roles i) parent ⊎ IsChildIn store child parent
  pub room : HasRoom heads store'

-- ---- what follows

module _ {i s key : ℕ} {store store' : Store} {roles roles' : Roles} (core : IsSoundCore store roles) (changes : ChangesCore core.heads i s key store roles store' roles') where
  -- a row stays, or it is the one that is touched
  each_row : (server id : ℕ) → (get (rows_at store' roles' server) id ≡ get (rows_at store roles server) id)
      ⊎ (((server ≡ s) × (id ≡ key)) × IsTouched store roles i server id (get (rows_at store roles server) id) (get (rows_at store' roles' server) id))
  each_row server id = elim (cases_eq server s) [
    | inr other ↦ inl (changes.rows server id (λ e _. other e))
    | inl here ↦ elim (cases_eq id key) [
      | inr other ↦ inl (changes.rows server id (λ _ e. other e))
      | inl its ↦ subst (λ a. (get (rows_at store' roles' a) id ≡ get (rows_at store roles a) id)
          ⊎ (((a ≡ s) × (id ≡ key)) × IsTouched store roles i a id (get (rows_at store roles a) id) (get (rows_at store' roles' a) id))) (sym here)
          (subst (λ b. (get (rows_at store' roles' s) b ≡ get (rows_at store roles s) b)
          ⊎ (((s ≡ s) × (b ≡ key)) × IsTouched store roles i s b (get (rows_at store roles s) b) (get (rows_at store' roles' s) b))) (sym its)
          (elim changes.row [ inl same ↦ inl same | inr touched ↦ inr ((refl, refl), touched) ]))
    ]
  ]

  -- a session that another than the caller names stays
  named_row : (k : ℕ) → k ≢ i → (q server : ℕ) (session : SessionId) → session_at (get (caps_in (roles k)) q) ≡ Some (server, session) →
      get (rows_at store' roles' server) session.0 ≡ get (rows_at store roles server) session.0
  named_row k other q server session names =
      let its = (core.named k).its q server session names in
      elim (each_row server session.0) [
        | inl same ↦ same
        | inr touched ↦ absurd (other (same_place k i (core.apart (Place k) (Place i) its.row.client its.client (touched.1.was_its its.row its.there))))
      ]

  agree : (k : ℕ) → k ≢ i → AgreeOn (caps_in (roles k)) (sessions_in store roles) (sessions_in store' roles')
  agree k other q server session names = ap (option_map (row_session server)) (named_row k other q server session names)

  -- the own states of all others stay
  pub own_follows : (k : ℕ) → k ≢ i → own_in (sessions_in store' roles') store' (roles' k) ≡ own_in (sessions_in store roles) store (roles k)
  own_follows k other = (changes.others k other).own (sessions_in store roles) (sessions_in store' roles') (agree k other)

  -- who pays did before
  was_place : (k account : ℕ) → Pays (roles' k) account → Pays (roles k) account
  was_place k account pays = elim (cases_eq k i) [
    | inl at ↦ subst (λ n. Pays (roles n) account) (sym at) (changes.pays account (subst (λ n. Pays (roles' n) account) at pays))
    | inr other ↦ (changes.others k other).pays account pays
  ]

  -- so it is with reserves
  was_reserve : (k account : ℕ) → reserve_in (roles' k) ≡ Some account → reserve_in (roles k) ≡ Some account
  was_reserve k account has = elim (cases_eq k i) [
    | inl at ↦ ap (λ n. reserve_in (roles n)) at ∙ changes.reserve account (ap (λ n. reserve_in (roles' n)) (sym at) ∙ has)
    | inr other ↦ sym (changes.others k other).reserve ∙ has
  ]

  reserved_after : (k account : ℕ) → reserve_in (roles' k) ≡ Some account → IsReserve store' (payer_in (roles' k)) account
  reserved_after k account has = elim (cases_eq k i) [
    | inl at ↦ subst (λ n. IsReserve store' (payer_in (roles' n)) account) (sym at) (changes.reserved account (ap (λ n. reserve_in (roles' n)) (sym at) ∙ has))
    | inr other ↦
        let payer : ℕ = payer_in (roles' k) in
        let pays : Pays (roles' k) payer = reserve_pays (roles' k) account has in
        let paid : Pays (roles k) payer = was_place k payer pays in
        let was = was_reserve k account has in
        let rests = (changes.others k other).reserved account was in
        let before = core.reserved k account was in
        record {
          beside = rests.parent ∙ before.beside ∙ ap (λ n. get (parents_in store) n) (pays_is (roles k) payer paid) ∙ sym (changes.children k payer paid pays);
          unused = subst (λ p. p ≡ opened_part (account_of p).ram_limit (account_of p).caps_limit) (sym rests.own) before.unused;
        }
  ]

  -- inits stay, each with its account
  pub init_follows : (k account : ℕ) → IsInitOf (roles k) account → IsInitOf (roles' k) account
  init_follows k account is = elim (cases_eq k i) [
    | inl at ↦ absurd (script_no_init (roles i) changes.script account (subst (λ n. IsInitOf (roles n) account) at is))
    | inr other ↦ (changes.others k other).inits account is
  ]

  inits_after : (account : ℕ) → IsInits store roles account → IsInits store' roles' account
  inits_after account is = elim is [ inl root ↦ inl (changes.root ∙ root) | inr its ↦ inr (its.0, init_follows its.0 account its.1) ]

  -- and each component's account is below its init's still
  home_kept : (k number account : ℕ) → Pays (roles k) account → Pays (roles' k) account → IsBelowParentInit store roles number account → IsBelowParentInit store' roles' number account
  home_kept k zero account was pays at = changes.children k account was pays ∙ at ∙ ap Some (sym changes.root)
  home_kept k (suc place) account was pays at =
      let its = below_init store (roles place) account at in
      init_below store' (roles' place) account its.0 (init_follows place its.0 its.1.0) (changes.children k account was pays ∙ its.1.1)

  pub homes_after : (places : Places) → ((k account : ℕ) → Pays (roles k) account → IsBelowParentInit store roles (places k).home account) →
      (k account : ℕ) → Pays (roles' k) account → IsBelowParentInit store' roles' (places k).home account
  homes_after places homes k account pays = home_kept k (places k).home account (was_place k account pays) pays (homes k account (was_place k account pays))

  -- who has an account had it, or has the touched session's, which nobody else had
  owned : (owner : Owner) (account : ℕ) → Owns store' roles' owner account →
      Owns store roles owner account ⊎ ((owner ≡ SessionAt s key) × ((one : Owner) → Owns store roles one account → one ≡ SessionAt s key))
  owned Init account owns = inl (sym changes.root ∙ owns)
  owned (Place k) account owns = inl (was_place k account owns)
  owned (ReserveAt k) account owns = inl (was_reserve k account owns)
  owned (SessionAt server id) account owns = elim (each_row server id) [
    | inl same ↦ inl (ap (option_map (λ (row : Row Labelled). row.key)) (sym same) ∙ owns)
    | inr touched ↦
        let is : SessionAt server id ≡ SessionAt s key = λ j. SessionAt (touched.0.0 j) (touched.0.1 j) in
        inr (is, λ one has. touched.1.alone account owns one has ∙ is)
  ]

  apart_after : HaveOneOwner store' roles'
  apart_after one other account first second = elim (owned one account first) [
    | inl had ↦ elim (owned other account second) [
      | inl both ↦ core.apart one other account had both
      | inr new ↦ new.1 one had ∙ sym new.0
    ]
    | inr new ↦ elim (owned other account second) [
      | inl had ↦ new.0 ∙ sym (new.1 other had)
      | inr both ↦ new.0 ∙ sym both.0
    ]
  ]

  -- what is so of the caller, and of each that follows, is so of all
  at_each : (P : ℕ → Type 0) → P i → ((k : ℕ) → k ≢ i → P k) → (k : ℕ) → P k
  at_each P one others k = elim (cases_eq k i) [ inl at ↦ subst P (sym at) one | inr other ↦ others k other ]

  clients_after : (server id : ℕ) (row : Row Labelled) → get (rows_at store' roles' server) id ≡ Some row → core.heads row.client ≡ false
  clients_after server id row there = elim (each_row server id) [
    | inl same ↦ core.clients server id row (sym same ∙ there)
    | inr touched ↦ script_head core i row.client (touched.1.is_its row there) changes.script
  ]

  -- what the sessions lend that another than the caller names
  lent_row : (k : ℕ) → k ≢ i → (q : ℕ) (o : Option (ℕ × SessionId)) → session_at (get (caps_in (roles k)) q) ≡ o → lent_by (rows_at store' roles') o ≡ lent_by (rows_at store roles) o
  lent_row k other q None names = refl
  lent_row k other q (Some named) names = ap lent_of (named_row k other q named.0 named.1 names)

  same_lent : (k : ℕ) → k ≢ i → (q : ℕ) → lent_by (rows_at store' roles') (session_at (get (caps_in (roles' k)) q)) ≡ lent_by (rows_at store roles) (session_at (get (caps_in (roles k)) q))
  same_lent k other q =
      ap (λ (m : NatMap Cap). lent_by (rows_at store' roles') (session_at (get m q))) (changes.others k other).caps
      ∙ lent_row k other q (session_at (get (caps_in (roles k)) q)) refl

  named_after : (k : ℕ) → k ≢ i → NamesItsSessions (rows_at store' roles') (roles' k)
  named_after k other =
      let follows = changes.others k other in
      let was : (q server : ℕ) (session : SessionId) → session_at (get (caps_in (roles' k)) q) ≡ Some (server, session) → session_at (get (caps_in (roles k)) q) ≡ Some (server, session)
      = λ q server session names. ap (λ (m : NatMap Cap). session_at (get m q)) (sym follows.caps) ∙ names in
      record {
        its = λ q server session names.
            let its = (core.named k).its q server session (was q server session names) in
            record { row = its.row; there = named_row k other q server session (was q server session names) ∙ its.there; client = follows.paid its.row.client its.client };
        once = λ p q server a b one two. (core.named k).once p q server a b (was p server a one) (was q server b two);
        lent = λ p q key has. same_lent k other q ∙ (core.named k).lent p q key (ap (λ (m : NatMap Cap). buffer_at (get m p)) (sym follows.caps) ∙ has);
        lends = λ q key lends.
            let its = (core.named k).lends q key (sym (same_lent k other q) ∙ lends) in
            (its.0, ap (λ (m : NatMap Cap). buffer_at (get m its.0)) follows.caps ∙ its.1);
      }

  held_after : (child parent : ℕ) → IsChildIn store' child parent → core.heads parent ≡ false → (place : ℕ) × NamesAccount (rows_at store' roles') (roles' place) child parent
  held_after child parent below inner = elim (changes.parents child parent below) [
    | inl its ↦ (i, changes.held child parent its below)
    | inr was ↦
        let held = core.held child parent was inner in
        let k = held.0 in
        let names = held.1 in
        elim (cases_eq k i) [
          | inl at ↦ (i, changes.held child parent (subst (λ n. Pays (roles n) parent) at (client_pays core k child parent names)) below)
          | inr other ↦ (
            k,
            record {
              selector = names.selector;
              server = names.server;
              session = names.session;
              names = ap (λ (m : NatMap Cap). session_at (get m names.selector)) (changes.others k other).caps ∙ names.names;
              row = names.row;
              there = named_row k other names.selector names.server names.session names.names ∙ names.there;
              key = names.key;
              its = names.its;
            },
          )
        ]
  ]

  -- the core stays sound
  pub core_after : IsSoundCore store' roles'
  core_after = record {
    heads = core.heads;
    root_head = subst (λ root. core.heads root ≡ true) (sym changes.root) core.root_head;
    inits = λ account head. inits_after account (core.inits account head);
    init = subst (IsOpenIn store') (sym changes.root) changes.init;
    sound = at_each (λ k. IsSoundRole store' (roles' k)) changes.sound (λ k other. (changes.others k other).sound);
    children = λ k account pays.
        let below = core.children k account (was_place k account pays) in
        record { head = below.head; is_head = below.is_head; child = changes.children k account (was_place k account pays) pays ∙ below.child };
    reserved = reserved_after;
    apart = apart_after;
    clients = clients_after;
    named = at_each (λ k. NamesItsSessions (rows_at store' roles') (roles' k)) changes.named named_after;
    placed = at_each (λ k. HasPlaces (sessions_in store' roles') store' (roles' k)) changes.placed (λ k other.
        subst (λ o. IfSome o (λ places. caps_limits (own_in (sessions_in store' roles') store' (roles' k)) ≤ places)) (sym (changes.others k other).places)
        (subst (λ (s : OwnState). IfSome (places_in (roles k)) (λ places. caps_limits s ≤ places)) (sym (own_follows k other)) (core.placed k)));
    held = held_after;
    room = changes.room;
  }
