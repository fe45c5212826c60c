-- What follows of the accounts and the sessions of a sound core.
use Rattle.std.proofs.Common.{◌≡◌, ◌≢◌, ℕ, Some, false, true, inl, inr, is_some, refl, sym, ap, subst, ◌∙◌}
use Rattle.std.proofs.lemmas.Bool.{cases_Bool}
use Rattle.std.proofs.lemmas.Option.{none-some, same_Some}
use Rattle.std.specs.FinMap.{get, empty}
use Rattle.std.specs.Option.{option_map}
use Rattle.std.specs.Prelude.{◌⊎◌, Option, None, IfSome}
use Rattle.own_model.specs.NatMap.{NatMap}
use Rattle.own_model.specs.Session.{Labelled}
use Rattle.own_model.proofs.NatMapLemmas.{get-empty}
use Rattle.cap_space.specs.declared.cap.Cap.{Cap}
use Rattle.dataspace_core.specs.Room.{IsOuter}
use Rattle.dataspace_core.specs.Store.{Store, Part, part, space_at, IsOpenIn, IsChildIn}
use Rattle.dataspace_core.proofs.PartLaws.{open_in_part, paid_in_part}
use Rattle.server_frame.specs.Frame.{Row}
use Rattle.pd_core.specs.Component.{Pays, HasReserveApart, payer_in, reserve_in, caps_in, lent_of, lent_by, NamesItsSessions}
use Rattle.pd_core.specs.Core.{Roles, rows_at, sessions_in, Owner, Owns, NamesAccount, Heads, IsInitOf, IsInits, IsBelowHead, IsSoundCore}
use Rattle.pd_core.specs.Exit.{IsScriptRole}
use Rattle.pd_core.specs.Core.Owner.{Init, Place, ReserveAt, SessionAt}
use Rattle.pd_core.specs.Own.{HasSessions}
use Rattle.pd_core.specs.SessionCalls.{IsBelowInit}
use Rattle.pd_core.specs.Sessions.{row_session}
use Rattle.pd_core.specs.Sound.{session_at, buffer_at}
use Rattle.pd_core.specs.declared.component.Role.{Role}
use Rattle.pd_core.specs.declared.component.Role.TheVariants.{Script, Server, Init as AnInit, Gone}
use Rattle.trade_base.specs.declared.id.SessionId.{SessionId}
use Rattle.pd_core.proofs.ComponentLemmas.{a_script, account_open}
use Rattle.pd_core.proofs.ServerLemmas.{paid_in, lent_paid, sound_works}
use Rattle.server_kinds.proofs.HostLaws.{IsPaidRow}

-- ---- owners

-- a place is one
pub same_place : (j k : ℕ) → Place j ≡ Place k → j ≡ k
same_place j k e = cc

pub not_place : (k : ℕ) → Init ≢ Place k
not_place k e = cc

pub not_session : (server id : ℕ) → Init ≢ SessionAt server id
not_session server id e = cc

pub no_place : (k server id : ℕ) → SessionAt server id ≢ Place k
no_place k server id e = cc

pub same_session : (a b c d : ℕ) → SessionAt a b ≡ SessionAt c d → (a ≡ c) × (b ≡ d)
same_session a b c d e = (cc, cc)

pub same_reserve : (j k : ℕ) → ReserveAt j ≡ ReserveAt k → j ≡ k
same_reserve j k e = cc

pub no_reserve_init : (k : ℕ) → Init ≢ ReserveAt k
no_reserve_init k e = cc

pub no_reserve_place : (j k : ℕ) → Place j ≢ ReserveAt k
no_reserve_place j k e = cc

pub no_reserve_session : (server id k : ℕ) → SessionAt server id ≢ ReserveAt k
no_reserve_session server id k e = cc

-- an owner is the component at a place, or its reserve
abbrev pub IsOf : ℕ → Owner → Type 0
IsOf i owner = (owner ≡ Place i) ⊎ (owner ≡ ReserveAt i)

-- no session is, and no other component or its reserve
pub no_session_of : (i server id : ℕ) → IsOf i (SessionAt server id) → ⊥
no_session_of i server id its = elim its [ inl e ↦ no_place i server id e | inr e ↦ no_reserve_session server id i e ]

pub no_place_of : (i k : ℕ) → k ≢ i → IsOf i (Place k) → ⊥
no_place_of i k other its = elim its [ inl e ↦ other (same_place k i e) | inr e ↦ no_reserve_place k i e ]

pub no_reserve_of : (i k : ℕ) → k ≢ i → IsOf i (ReserveAt k) → ⊥
no_reserve_of i k other its = elim its [ inl e ↦ no_reserve_place i k (sym e) | inr e ↦ other (same_reserve k i e) ]

-- ---- inits

-- an init pays for its account
pub init_pays : (role : Role) (account : ℕ) → IsInitOf role account → Pays role account
init_pays (Script script) account is = absurd is
init_pays (Server key host) account is = absurd is
init_pays (AnInit key) account is = is
init_pays Gone account is = absurd is

-- a script is none
pub script_no_init : (role : Role) → IsScriptRole role → (account : ℕ) → IsInitOf role account → ⊥
script_no_init role script_is account is = subst (λ r. IsInitOf r account) (a_script role script_is).1 is

-- who has a reserve is a script, which pays for an account
pub reserve_pays : (role : Role) (account : ℕ) → reserve_in role ≡ Some account → Pays role (payer_in role)
reserve_pays (Script script) account has = refl
reserve_pays (Server key host) account has = absurd (none-some account has)
reserve_pays (AnInit key) account has = absurd (none-some account has)
reserve_pays Gone account has = absurd (none-some account has)

-- what is below the account of a role's init is so by its key
pub below_init : (store : Store) (role : Role) (account : ℕ) → IsBelowInit store role account → (head : ℕ) × (IsInitOf role head × IsChildIn store account head)
below_init store (Script script) account below = absurd below
below_init store (Server key host) account below = absurd below
below_init store (AnInit key) account below = (key.0, (refl, below))
below_init store Gone account below = absurd below

pub init_below : (store : Store) (role : Role) (account head : ℕ) → IsInitOf role head → IsChildIn store account head → IsBelowInit store role account
init_below store (Script script) account head is below = is
init_below store (Server key host) account head is below = is
init_below store (AnInit key) account head is below = below ∙ ap Some (sym is)
init_below store Gone account head is below = is

-- what is below a head is below no other account
pub below_outer : {heads : Heads} {store : Store} {account : ℕ} → IsBelowHead store heads account → IsOuter heads store account
below_outer {heads} below parent is = subst (λ p. heads p ≡ true) (same_Some _ _ (sym below.child ∙ is)) below.is_head

-- ---- a role without a capability

-- it names nothing
pub names_none : (rows : ℕ → NatMap (Row Labelled)) (role : Role) → caps_in role ≡ empty → NamesItsSessions rows role
names_none rows role none =
    let no_cap : (q : ℕ) → get (caps_in role) q ≡ None = λ q. ap (λ (m : NatMap Cap). get m q) none ∙ get-empty q in
    record {
      its = λ q server session is. absurd (none-some (server, session) (sym (ap session_at (no_cap q)) ∙ is));
      once = λ p q server a b is _ _. absurd (none-some (server, a) (sym (ap session_at (no_cap p)) ∙ is));
      lent = λ p q key is. absurd (none-some (q, key) (sym (ap buffer_at (no_cap p)) ∙ is));
      lends = λ q key is. absurd (none-some key (sym (ap (λ o. lent_by rows (session_at o)) (no_cap q)) ∙ is));
    }

-- ---- whose accounts there are

module _ {store : Store} {roles : Roles} (core : IsSoundCore store roles) where
  -- a row's account is its session's
  pub owns_row : (server id : ℕ) (row : Row Labelled) → get (rows_at store roles server) id ≡ Some row → Owns store roles (SessionAt server id) row.key
  owns_row server id row there = ap (option_map (λ (r : Row Labelled). r.key)) there

  -- and its client's child
  pub row_paid : (server id : ℕ) (row : Row Labelled) → get (rows_at store roles server) id ≡ Some row → IsPaidRow store row
  row_paid server id row there = paid_in store (roles server) (sound_works store (roles server) (core.sound server)) id row there

  -- each account that somebody has is open
  row_open : (server id account : ℕ) (o : Option (Row Labelled)) → get (rows_at store roles server) id ≡ o → option_map (λ (r : Row Labelled). r.key) o ≡ Some account → IsOpenIn store account
  row_open server id account None there is = absurd (none-some account is)
  row_open server id account (Some row) there is = subst (IsOpenIn store) (same_Some row.key account is) (row_paid server id row there).opens

  pub owned_open : (owner : Owner) (account : ℕ) → Owns store roles owner account → IsOpenIn store account
  owned_open Init account owns = subst (IsOpenIn store) owns core.init
  owned_open (Place k) account owns = open_in_part account store (account_open store (roles k) (core.sound k) account owns)
  owned_open (ReserveAt k) account owns = open_in_part account store (ap (λ (p : Part). is_some p.account) (core.reserved k account owns).unused)
  owned_open (SessionAt server id) account owns = row_open server id account (get (rows_at store roles server) id) refl owns

  -- the session that lends a component a dataspace, and its account, which pays for that
  pub record IsLender (k key : ℕ) : Type 0 where
    pub server : ℕ
    pub id : ℕ
    pub row : Row Labelled
    pub there : get (rows_at store roles server) id ≡ Some row
    pub its : Pays (roles k) row.client
    pub lends : row.buffer ≡ Some key
    pub has : get (part row.key store).spaces key ≡ Some (space_at store key).bytes
    pub payer : (space_at store key).payer ≡ row.key
    pub owns : Owns store roles (SessionAt server id) (space_at store key).payer

  lender_named : (k q key : ℕ) (o : Option (ℕ × SessionId)) → session_at (get (caps_in (roles k)) q) ≡ o → lent_by (rows_at store roles) o ≡ Some key → IsLender k key
  lender_named k q key None names lent = absurd (none-some key lent)
  lender_named k q key (Some named) names lent =
      let its = (core.named k).its q named.0 named.1 names in
      let lends = sym (ap lent_of its.there) ∙ lent in
      let has = lent_paid store (roles named.0) (sound_works store (roles named.0) (core.sound named.0)) named.1.0 key its.row its.there lends in
      let payer = (paid_in_part its.row.key key (space_at store key).bytes store has).payer in
      record {
        server = named.0;
        id = named.1.0;
        row = its.row;
        there = its.there;
        its = its.client;
        lends = lends;
        has = has;
        payer = payer;
        owns = owns_row named.0 named.1.0 its.row its.there ∙ ap Some (sym payer);
      }

  -- each buffer that a component names is lent by one
  pub lender : (k s q key : ℕ) → buffer_at (get (caps_in (roles k)) s) ≡ Some (q, key) → IsLender k key
  lender k s q key names = lender_named k q key (session_at (get (caps_in (roles k)) q)) refl ((core.named k).lent s q key names)

  -- the client of a session that a component names pays
  pub client_pays : (k child parent : ℕ) → NamesAccount (rows_at store roles) (roles k) child parent → Pays (roles k) parent
  client_pays k child parent names =
      let row = (core.named k).its names.selector names.server names.session names.names in
      let same : row.row ≡ names.row = same_Some row.row names.row (sym row.there ∙ names.there) in
      subst (Pays (roles k)) (ap (λ (r : Row Labelled). r.client) same ∙ names.its) row.client

  -- an account that is a component's, its reserve's or a session's is no init's, unless the component is the init
  pub no_init : (owner : Owner) (account : ℕ) → Owns store roles owner account → (Init ≢ owner) → ((k : ℕ) → owner ≡ Place k → IsInitOf (roles k) account → ⊥) → IsInits store roles account → ⊥
  no_init owner account owns other none is = elim is [
    | inl root ↦ other (core.apart Init owner account root owns)
    | inr its ↦ none its.0 (core.apart owner (Place its.0) account owns (init_pays (roles its.0) account its.1)) its.1
  ]

  -- so it is no head
  pub not_head : (owner : Owner) (account : ℕ) → Owns store roles owner account → (Init ≢ owner) → ((k : ℕ) → owner ≡ Place k → IsInitOf (roles k) account → ⊥) → core.heads account ≡ false
  not_head owner account owns other none = elim (cases_Bool (core.heads account)) [
    | inl is ↦ absurd (no_init owner account owns other none (core.inits account is))
    | inr none_is ↦ none_is
  ]

  -- a session's is none
  pub session_no_init : (server id account : ℕ) → Owns store roles (SessionAt server id) account → IsInits store roles account → ⊥
  session_no_init server id account owns = no_init (SessionAt server id) account owns (not_session server id) (λ k e. absurd (no_place k server id e))

  -- nor is a reserve's
  pub reserve_no_init : (k account : ℕ) → reserve_in (roles k) ≡ Some account → IsInits store roles account → ⊥
  reserve_no_init k account owns = no_init (ReserveAt k) account owns (no_reserve_init k) (λ j e. absurd (no_reserve_place j k (sym e)))

  pub reserve_no_head : (k account : ℕ) → reserve_in (roles k) ≡ Some account → core.heads account ≡ false
  reserve_no_head k account owns = not_head (ReserveAt k) account owns (no_reserve_init k) (λ j e. absurd (no_reserve_place j k (sym e)))

  -- each component's account is below heads alone
  pub place_outer : (k account : ℕ) → Pays (roles k) account → IsOuter core.heads store account
  place_outer k account pays = below_outer (core.children k account pays)

  -- and so is its reserve's
  pub reserve_outer : (k account : ℕ) → reserve_in (roles k) ≡ Some account → IsOuter core.heads store account
  reserve_outer k account has parent below =
      place_outer k (payer_in (roles k)) (reserve_pays (roles k) account has) parent (sym (core.reserved k account has).beside ∙ below)

  module _ (i account : ℕ) (pays : Pays (roles i) account) where
    -- a component's account is no other owner's
    pub pays_alone : (owner : Owner) → Owns store roles owner account → owner ≡ Place i
    pays_alone owner owns = core.apart owner (Place i) account owns pays

    -- a script's is no init's
    pub script_inits : IsScriptRole (roles i) → IsInits store roles account → ⊥
    script_inits script = no_init (Place i) account pays (not_place i) (λ k e is. script_no_init (roles i) script account (subst (λ n. IsInitOf (roles n) account) (sym (same_place i k e)) is))

    pub script_head : IsScriptRole (roles i) → core.heads account ≡ false
    script_head script = not_head (Place i) account pays (not_place i) (λ k e is. script_no_init (roles i) script account (subst (λ n. IsInitOf (roles n) account) (sym (same_place i k e)) is))

    -- and each account below it is that of a session that one of its selectors names
    pub held_by : IsScriptRole (roles i) → (child : ℕ) → IsChildIn store child account → NamesAccount (rows_at store roles) (roles i) child account
    held_by script child below =
        let held = core.held child account below (script_head script) in
        let k = held.0 in
        let names = held.1 in
        let its = client_pays k child account names in
        subst (λ n. NamesAccount (rows_at store roles) (roles n) child account) (same_place k i (core.apart (Place k) (Place i) account its pays)) names

  -- a role's reserve is another account than its own
  pub reserve_apart : (k : ℕ) → HasReserveApart (roles k)
  reserve_apart k = by_role (roles k) refl where
    by_role : (r : Role) → roles k ≡ r → HasReserveApart r
    by_role (Script script) is = λ e.
        no_reserve_place k k (core.apart (Place k) (ReserveAt k) script.reserve.0 (subst (λ r. Pays r script.reserve.0) (sym is) (sym e)) (ap reserve_in is))
    by_role (Server account host) is = tt
    by_role (AnInit key) is = tt
    by_role Gone is = tt

  -- it is open
  pub reserve_open : (k : ℕ) → IfSome (reserve_in (roles k)) (IsOpenIn store)
  reserve_open k = elim (reserve_in (roles k)) as (λ o. reserve_in (roles k) ≡ o → IfSome o (IsOpenIn store)) [
    | None ↦ λ _. tt
    | Some account ↦ λ is. owned_open (ReserveAt k) account is
  ] refl

  -- each session that a selector names is open
  pub names_open : (i : ℕ) → HasSessions (sessions_in store roles) (caps_in (roles i))
  names_open i q server session there = ap is_some (ap (option_map (row_session server)) ((core.named i).its q server session (ap session_at there)).there)
