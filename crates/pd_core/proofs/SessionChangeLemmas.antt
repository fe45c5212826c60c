-- A call of one session: what it changes, and that the core changes by that.
use Rattle.std.proofs.Common.{◌≡◌, ◌≢◌, false, true, ℕ, ◌<◌, List, length, get_or, Some, is_some, refl, sym, ap, subst, ◌∙◌, inl, inr, arith}
use Rattle.std.specs.FinMap.{get, empty}
use Rattle.std.specs.List.{flat_map}
use Rattle.std.specs.Option.{option_map}
use Rattle.std.specs.Prelude.{Option, ◌⊎◌, IsSome, None}
use Rattle.std.proofs.lemmas.Bool.{cases_eq}
use Rattle.std.proofs.lemmas.Option.{none-some, same_Some}
use Rattle.trade_base.specs.declared.id.AccountId.{AccountId}
use Rattle.trade_base.specs.declared.id.SessionId.{SessionId}
use Rattle.own_model.specs.Call.{Call, is_exit}
use Rattle.own_model.specs.NatMap.{NatMap}
use Rattle.own_model.specs.OwnHeap.{no_heap}
use Rattle.own_model.specs.OwnStep.{Outcome, own_step, entry_step}
use Rattle.own_model.specs.Reply.{Reply, LogLine, reply_text, log_text}
use Rattle.own_model.specs.Session.{Labelled}
use Rattle.own_model.proofs.NatMapLemmas.{some_of}
use Rattle.cap_space.specs.declared.cap.Cap.{Cap}
use Rattle.dataspace_core.specs.Room.{HasRoom}
use Rattle.dataspace_core.specs.Share.{share_in}
use Rattle.dataspace_core.specs.Store.{Store, Part, part, account_of, opened_part, root_in, parents_in, ram_limits_in, caps_limits_in, IsChildIn}
use Rattle.dataspace_core.proofs.PartLaws.{open_in_part, part_open}
use Rattle.server_frame.specs.Frame.{Row}
use Rattle.server_frame.specs.Session.{holding}
use Rattle.core_calls.specs.ReplyText.{Told}
use Rattle.pd_core.specs.Component.{Pays, amounts_in, with_reserve, reserve_in, caps_in, entry_of, kind_of, payer_in, payer_of, offer_in, places_in, rows_in, own_in, lent_of, lent_by, NamesItsSessions, HasPlaces, IsSoundRole, StaysServer}
use Rattle.pd_core.specs.Core.{Heads, Places, Roles, roles_of, rows_at, sessions_in, Owner, Owns, NamesAccount, IsInits, IsSoundCore}
use Rattle.pd_core.specs.Exit.{IsScriptRole}
use Rattle.pd_core.specs.Core.Owner.{Init, Place, ReserveAt, SessionAt}
use Rattle.pd_core.specs.Own.{Sessions, HasSessions, no_sessions, own_of, own_at, no_lent}
use Rattle.pd_core.specs.Sessions.{row_session, AgreeBut, IsLentAt, DoesSession}
use Rattle.pd_core.specs.SessionCalls.{Goes}
use Rattle.pd_core.specs.Sound.{session_at, buffer_at, lent_from, IsOne, IsSoundScript}
use Rattle.cap_space.specs.declared.cap.Cap.TheVariants.{Session}
use Rattle.pd_core.specs.declared.component.Component.{Component}
use Rattle.pd_core.specs.declared.component.Role.{Role}
use Rattle.pd_core.specs.declared.component.Role.TheVariants.{Script as AScript, Gone}
use Rattle.pd_core.specs.declared.script.Script.{Script}
use Rattle.core_calls.specs.Call.{is_of_reserve}
use Rattle.pd_core.proofs.ReserveAsideLemmas.{outcome_with, stands_aside}
use Rattle.pd_core.proofs.CoreChangeLemmas.{InitsRest, ReserveRests, AllRestBut, ChangesCore, Follows, OthersFollow}
use Rattle.pd_core.proofs.ComponentLemmas.{account_open, pays_is, pays_server}
use Rattle.pd_core.proofs.CoreHeldLemmas.{names_open, same_place, no_place, no_reserve_place, no_reserve_session, same_session, not_session, init_pays, reserve_pays, pays_alone, script_inits, held_by}
use Rattle.pd_core.proofs.ScriptNameLemmas.{buffer_key, lent_aside}
use Rattle.pd_core.proofs.CoreRoleLemmas.{Leaves, role_left, rows_left}
use Rattle.pd_core.proofs.ServerLemmas.{is_serving, enough_places, sound_server}
use Rattle.pd_core.proofs.SessionOwnLemmas.{is_step}
use Rattle.pd_core.proofs.CoreWorldLemmas.{SameFaces, goes, places_kept, place_of, role_at, same_inits}

-- ---- between whom it is, and what it changes

-- a script stands at one place of a core, and a server at another
pub record AreTwo (store : Store) (roles : Roles) (i s : ℕ) (script : Script) : Type 0 where
  pub core : IsSoundCore store roles
  pub is_script : roles i ≡ AScript script
  pub serving : IsSome (offer_in (roles s))

-- two roles are replaced, and all others stay
pub record ReplacesTwo (before after : Roles) (i s : ℕ) (client host : Role) : Type 0 where
  pub client_at : after i ≡ client
  pub host_at : after s ≡ host
  pub others : (k : ℕ) → k ≢ i → k ≢ s → after k ≡ before k

-- the parts of all accounts stay but those of a client and of its session, which is below nobody else; no limit is lost
pub record MovesAccounts (heads : Heads) (payer account : ℕ) (old new : Store) : Type 0 where
  pub others : AllRestBut payer account old new
  pub parents : (other : ℕ) → other ≢ account → get (parents_in new) other ≡ get (parents_in old) other
  pub parent : (other : ℕ) → IsChildIn new account other → other ≡ payer
  pub root : root_in new ≡ root_in old
  pub caps : caps_limits_in new ≡ caps_limits_in old
  pub room : HasRoom heads new

-- a selector has a session of a client on an account, where there is a row of it, and another has what it lends, where it lends
-- something; else they have nothing of a session
pub record IsTied (payer account s q k : ℕ) (session : SessionId) (caps : NatMap Cap) (rows : NatMap (Row Labelled)) (row : Option (Row Labelled)) : Type 0 where
  pub has : get caps q ≡ option_map (λ _. Session s session) row
  pub there : get rows session.0 ≡ row
  pub client : (r : Row Labelled) → row ≡ Some r → r.client ≡ payer
  pub key : (r : Row Labelled) → row ≡ Some r → r.key ≡ account
  pub lent : IsLentAt caps q k (lent_of row)

-- a script keeps its account, its reserve, its places and what its selectors have but these two
pub record KeepsBut (before after : Script) (q k : ℕ) : Type 0 where
  pub account : after.account ≡ before.account
  pub reserve : after.reserve ≡ before.reserve
  pub places : after.caps.places ≡ before.caps.places
  pub caps : (p : ℕ) → p ≢ q → p ≢ k → get after.caps.caps p ≡ get before.caps.caps p

-- a call of one session, from one row to another or none: no other selector than its own and its buffer's and no other row
-- changes
pub record ChangesSession (heads : Heads) (account s q k : ℕ) (session : SessionId) (old new : Store) (before after : Script) (rows rows' : NatMap (Row Labelled)) (was is : Option (Row Labelled)) : Type 0 where
  pub moves : MovesAccounts heads before.account.0 account old new
  pub ram : ram_limits_in new ≡ ram_limits_in old
  pub sound : IsSoundScript new after
  pub stays : KeepsBut before after q k
  pub rows_stay : (id : ℕ) → id ≢ session.0 → get rows' id ≡ get rows id
  pub tied : IsTied before.account.0 account s q k session before.caps.caps rows was
  pub tied_after : IsTied before.account.0 account s q k session after.caps.caps rows' is
  pub below : (other : ℕ) → IsChildIn new account other → IsSome is

-- what a selector has that is tied is a session and no buffer
has_session : (s : ℕ) (session : SessionId) (row : Option (Row Labelled)) → session_at (option_map (λ _. Session s session) row) ≡ option_map (λ _. (s, session)) row
has_session s session None = refl
has_session s session (Some r) = refl

has_no_buffer : (s : ℕ) (session : SessionId) (row : Option (Row Labelled)) → buffer_at (option_map (λ _. Session s session) row) ≡ None
has_no_buffer s session None = refl
has_no_buffer s session (Some r) = refl

-- what is told of a buffer of a session
pub lent_pair : (o : Option ℕ) (q r key : ℕ) → lent_from q o ≡ Some (r, key) → (r ≡ q) × (o ≡ Some key)
lent_pair None q r key is = absurd (none-some (r, key) is)
lent_pair (Some one) q r key is = let same = same_Some (q, one) (r, key) is in (sym (ap (λ (x : ℕ × ℕ). x.0) same), ap (λ (x : ℕ × ℕ). Some x.1) same)

module _ {payer account s q k : ℕ} {session : SessionId} {caps : NatMap Cap} {rows : NatMap (Row Labelled)} (row : Option (Row Labelled)) (tied : IsTied payer account s q k session caps rows row) where
  pub tied_names : session_at (get caps q) ≡ option_map (λ _. (s, session)) row
  tied_names = ap session_at tied.has ∙ has_session s session row

  tied_no_buffer : buffer_at (get caps q) ≡ None
  tied_no_buffer = ap buffer_at tied.has ∙ has_no_buffer s session row

-- the row of what a selector names
tied_row : {payer account s q k : ℕ} {session : SessionId} {caps : NatMap Cap} {rows : NatMap (Row Labelled)} (row : Option (Row Labelled)) → IsTied payer account s q k session caps rows row →
    (named : ℕ × SessionId) → session_at (get caps q) ≡ Some named → (r : Row Labelled) × ((row ≡ Some r) × (◌≡◌ {A = ℕ × SessionId} (s, session) named))
tied_row None tied named is = absurd (none-some named (sym (tied_names None tied) ∙ is))
tied_row (Some r) tied named is = (r, (refl, same_Some _ _ (sym (tied_names (Some r) tied) ∙ is)))

tied_key : {payer account s q k : ℕ} {session : SessionId} {caps : NatMap Cap} {rows : NatMap (Row Labelled)} (row : Option (Row Labelled)) → IsTied payer account s q k session caps rows row →
    (one : ℕ) → option_map (λ (r : Row Labelled). r.key) row ≡ Some one → one ≡ account
tied_key None tied one is = absurd (none-some one is)
tied_key (Some r) tied one is = same_Some _ _ (sym is) ∙ tied.key r refl

-- what the session that is tied lends is its row's
tied_lends : {payer account s q k : ℕ} {session : SessionId} {caps : NatMap Cap} (rows : ℕ → NatMap (Row Labelled)) {here : NatMap (Row Labelled)} (row : Option (Row Labelled)) → rows s ≡ here →
    IsTied payer account s q k session caps here row → lent_by rows (session_at (get caps q)) ≡ lent_of row
tied_lends rows None at tied = ap (lent_by rows) (tied_names None tied)
tied_lends {s = s} {session = session} rows (Some r) at tied = ap (lent_by rows) (tied_names (Some r) tied) ∙ ap (λ (m : NatMap (Row Labelled)). lent_of (get m session.0)) at ∙ ap lent_of tied.there

-- ---- the roles after it

module _ {store : Store} {roles : Roles} {i s : ℕ} {script : Script} (two : AreTwo store roles i s script) where
  open two use {core, is_script, serving}

  abbrev payer : ℕ
  payer = script.account.0

  -- the places are two
  pub two_places : s ≢ i
  two_places e = (let none : false ≡ true = ap (λ r. is_some (offer_in r)) (sym is_script) ∙ ap (λ k. is_some (offer_in (roles k))) (sym e) ∙ serving in cc)

  pub pays_client : Pays (roles i) payer
  pays_client = subst (λ r. Pays r payer) (sym is_script) refl

  pub calls : IsScriptRole (roles i)
  calls = subst IsScriptRole (sym is_script) refl

  -- what is so of the caller's role is so of the script
  pub at_script : (P : Role → Type 0) → P (roles i) → P (AScript script)
  at_script P its = subst P is_script its

  module _ {store' : Store} {roles' : Roles} {script' : Script} {host host' : Component} {q k account : ℕ} {session : SessionId} {was is : Option (Row Labelled)}
      (host_is : roles s ≡ host.role) (replaced : ReplacesTwo roles roles' i s (AScript script') host'.role)
      (alone : (owner : Owner) → Owns store roles owner account → owner ≡ SessionAt s session.0)
      (changes : ChangesSession core.heads account s q k session store store' script script' (rows_in store (roles s)) (rows_in store' host'.role) was is) (stays : StaysServer store host store' host') where
    open changes.moves use {others, parents, parent, root}

    -- the client and the session are touched
    abbrev Touched : Owner → Type 0
    Touched owner = (owner ≡ Place i) ⊎ (owner ≡ SessionAt s session.0)

    module _ (owner : Owner) (one : ℕ) (other : Touched owner → ⊥) (owns : Owns store roles owner one) where
      not_payer : one ≢ payer
      not_payer e = other (inl (pays_alone core i payer pays_client owner (subst (Owns store roles owner) e owns)))

      not_account : one ≢ account
      not_account e = other (inr (alone owner (subst (Owns store roles owner) e owns)))

    leaves : Leaves store roles store' Touched
    leaves = record {
      stays = λ owner one other owns regions.
          let apart = not_payer owner one other owns in
          let own = others one apart (not_account owner one other owns) in
          record {
            own = own;
            held = ap (λ p. holding (share_in p regions.heap regions.tags)) own;
            parent = parents one (not_account owner one other owns);
            leaf = λ leaf k below. elim (cases_eq k account) [
              | inl its ↦ apart (parent one (ap (get (parents_in store')) (sym its) ∙ below))
              | inr differs ↦ leaf k (sym (parents k differs) ∙ below)
            ];
          };
      ram = changes.ram;
      caps = changes.moves.caps;
    }

    other_place : (k : ℕ) → k ≢ i → Touched (Place k) → ⊥
    other_place k other touched = elim touched [ inl e ↦ other (same_place k i e) | inr e ↦ no_place k s session.0 (sym e) ]

    other_reserve : (k : ℕ) → Touched (ReserveAt k) → ⊥
    other_reserve k touched = elim touched [ inl e ↦ no_reserve_place i k (sym e) | inr e ↦ no_reserve_session s session.0 k (sym e) ]

    other_server : (k : ℕ) → k ≢ s → (id : ℕ) → Touched (SessionAt k id) → ⊥
    other_server k other id touched = elim touched [ inl e ↦ no_place i k id e | inr e ↦ other (same_session k id s session.0 e).0 ]

    -- the session is no other's
    other_client : (k : ℕ) → k ≢ i → (server id : ℕ) (row : Row Labelled) → get (rows_at store roles server) id ≡ Some row → Pays (roles k) row.client → Touched (SessionAt server id) → ⊥
    other_client k other server id row there its touched = elim touched [
      | inl e ↦ no_place i server id e
      | inr e ↦
          let same = same_session server id s session.0 e in
          let client = changes.tied.client row (sym changes.tied.there ∙ (λ j. get (rows_at store roles (sym same.0 j)) (sym same.1 j)) ∙ there) in
          other (same_place k i (core.apart (Place k) (Place i) payer (subst (Pays (roles k)) client its) pays_client))
    ]

    -- ---- the rows

    rows_elsewhere : (k : ℕ) → k ≢ s → rows_at store' roles' k ≡ rows_at store roles k
    rows_elsewhere k other = elim (cases_eq k i) [
      | inl at ↦ ap (λ n. rows_in store' (roles' n)) at ∙ ap (rows_in store') replaced.client_at ∙ ap (rows_in store) (sym is_script) ∙ ap (λ n. rows_in store (roles n)) (sym at)
      | inr not_caller ↦ ap (rows_in store') (replaced.others k not_caller other) ∙ rows_left leaves k (other_server k other)
    ]

    pub rows_here : rows_at store' roles' s ≡ rows_in store' host'.role
    rows_here = ap (rows_in store') replaced.host_at

    other_row : (server id : ℕ) → ((server ≡ s) → (id ≡ session.0) → ⊥) → get (rows_at store' roles' server) id ≡ get (rows_at store roles server) id
    other_row server id apart = elim (cases_eq server s) [
      | inl e ↦
          ap (λ k. get (rows_at store' roles' k) id) e ∙ ap (λ (m : NatMap (Row Labelled)). get m id) rows_here ∙ changes.rows_stay id (apart e)
          ∙ ap (λ k. get (rows_at store roles k) id) (sym e)
      | inr other ↦ ap (λ (m : NatMap (Row Labelled)). get m id) (rows_elsewhere server other)
    ]

    pub now_there : get (rows_at store' roles' s) session.0 ≡ is
    now_there = ap (λ (m : NatMap (Row Labelled)). get m session.0) rows_here ∙ changes.tied_after.there

    -- all other sessions are the same
    pub sessions_agree : AgreeBut (sessions_in store roles) (sessions_in store' roles') s session.0
    sessions_agree server id apart = ap (option_map (row_session server)) (other_row server id apart)

    -- ---- the host

    host_part : part (payer_of host) store' ≡ part (payer_of host) store
    host_part =
        let owns : Pays (roles s) (payer_of host) = subst (λ r. Pays (roles s) (payer_in r)) host_is (pays_server (roles s) serving) in
        others (payer_of host) (not_payer (Place s) (payer_of host) (other_place s two_places) owns) (not_account (Place s) (payer_of host) (other_place s two_places) owns)

    host_serving : IsSome (offer_in host.role)
    host_serving = subst (λ r. IsSome (offer_in r)) host_is serving

    still_serving : IsSome (offer_in host'.role)
    still_serving = subst IsSome (sym stays.service) host_serving

    host_follows : Follows store host.role store' host'.role
    host_follows =
        let sound = subst (IsSoundRole store) host_is (core.sound s) in
        let was_serving = is_serving host.role host_serving in
        let now = is_serving host'.role still_serving in
        let is_open = ap (λ (p : Part). is_some p.account) host_part ∙ account_open store host.role sound (payer_of host) (pays_server host.role host_serving) in
        record {
          sound = sound_server store' host'.role still_serving stays.works (subst (λ one. IsSome (part one store').account) (sym stays.account) is_open)
              (omega (arith, enough_places store host.role host_serving sound, changes.moves.caps, stays.capacity));
          own = λ S S' _.
              now.own S' store' ∙ ap (λ one. own_of no_lent no_sessions (part one store') empty empty no_heap empty) stays.account
              ∙ ap (λ p. own_of no_lent no_sessions p empty empty no_heap empty) host_part ∙ sym (was_serving.own S store);
          caps = now.caps ∙ sym was_serving.caps;
          places = now.places ∙ sym was_serving.places;
          pays = λ one its. subst (Pays host.role) (sym stays.account ∙ pays_is host'.role one its) (pays_server host.role host_serving);
          paid = λ one its. subst (Pays host'.role) (stays.account ∙ pays_is host.role one its) (pays_server host'.role still_serving);
          inits = λ one its. absurd (was_serving.no_init one its);
          reserve = now.reserve ∙ sym was_serving.reserve;
          reserved = λ one is. absurd (none-some one (sym was_serving.reserve ∙ is));
        }

    follows : OthersFollow i store roles store' roles'
    follows k other = elim (cases_eq k s) [
      | inl at ↦
          subst (λ n. Follows store (roles n) store' (roles' n)) (sym at)
          (subst (λ r. Follows store (roles s) store' r) (sym replaced.host_at) (subst (λ r. Follows store r store' host'.role) (sym host_is) host_follows))
      | inr not_host ↦
          subst (Follows store (roles k) store') (sym (replaced.others k other not_host))
          (role_left leaves k (other_server k not_host) core (other_place k other) (other_reserve k) (other_client k other))
    ]

    -- ---- the client's selectors

    was_named : NamesItsSessions (rows_at store roles) (AScript script)
    was_named = at_script (NamesItsSessions (rows_at store roles)) (core.named i)

    -- no other selector names the session
    not_other : (p at : ℕ) (one : SessionId) → p ≢ q → session_at (get script.caps.caps p) ≡ Some (at, one) → at ≡ s → one.0 ≡ session.0 → ⊥
    not_other p at one apart names e f =
        let its = was_named.its p at one names in
        let some : was ≡ Some its.row = sym changes.tied.there ∙ (λ j. get (rows_at store roles (sym e j)) (sym f j)) ∙ its.there in
        apart (was_named.once p q s one session (names ∙ ap (λ n. Some (n, one)) e) (tied_names was changes.tied ∙ ap (option_map (λ _. (s, session))) some) f)

    -- another selector names what it named
    same_name : (p : ℕ) → p ≢ q → session_at (get script'.caps.caps p) ≡ session_at (get script.caps.caps p)
    same_name p apart = elim (cases_eq p k) [
      | inl at ↦
          ap (λ n. session_at (get script'.caps.caps n)) at ∙ lent_aside changes.tied_after.lent
          ∙ sym (ap (λ n. session_at (get script.caps.caps n)) at ∙ lent_aside changes.tied.lent)
      | inr beside ↦ ap session_at (changes.stays.caps p apart beside)
    ]

    before : (p : ℕ) → p ≢ q → (named : ℕ × SessionId) → session_at (get script'.caps.caps p) ≡ Some named → session_at (get script.caps.caps p) ≡ Some named
    before p apart named is = sym (same_name p apart) ∙ is

    -- a selector that names what the changed one does is that one
    same_as_it : (p at : ℕ) (a b : SessionId) → session_at (get script'.caps.caps q) ≡ Some (at, a) → session_at (get script'.caps.caps p) ≡ Some (at, b) → a.0 ≡ b.0 → p ≡ q
    same_as_it p at a b its names same = elim (cases_eq p q) [
      | inl e ↦ e
      | inr apart ↦
          let is_it = (tied_row is changes.tied_after (at, a) its).1.1 in
          absurd (not_other p at b apart (before p apart (at, b) names) (ap (λ (x : ℕ × SessionId). x.0) (sym is_it)) (sym same ∙ ap (λ (x : ℕ × SessionId). x.1.0) (sym is_it)))
    ]

    -- ---- what its sessions lend

    -- the session lends what its row says
    lent_before : lent_by (rows_at store roles) (session_at (get script.caps.caps q)) ≡ lent_of was
    lent_before = tied_lends (rows_at store roles) was refl changes.tied

    lent_now : lent_by (rows_at store' roles') (session_at (get script'.caps.caps q)) ≡ lent_of is
    lent_now = tied_lends (rows_at store' roles') is rows_here changes.tied_after

    -- every other one what it lent
    by_name : (r : ℕ) → r ≢ q → (o : Option (ℕ × SessionId)) → session_at (get script.caps.caps r) ≡ o → lent_by (rows_at store' roles') o ≡ lent_by (rows_at store roles) o
    by_name r apart None names = refl
    by_name r apart (Some named) names = ap lent_of (other_row named.0 named.1.0 (not_other r named.0 named.1 apart names))

    lent_beside : (r : ℕ) → r ≢ q → lent_by (rows_at store' roles') (session_at (get script'.caps.caps r)) ≡ lent_by (rows_at store roles) (session_at (get script.caps.caps r))
    lent_beside r apart = ap (lent_by (rows_at store' roles')) (same_name r apart) ∙ by_name r apart (session_at (get script.caps.caps r)) refl

    -- the selector of its buffer has what it lends
    of_it : (r key : ℕ) → buffer_at (get script.caps.caps k) ≡ Some (r, key) → (r ≡ q) × (lent_of was ≡ Some key)
    of_it r key has = lent_pair (lent_of was) q r key (sym changes.tied.lent.has ∙ has)

    -- and no other selector a buffer of it
    not_of_it : (p key : ℕ) → p ≢ k → buffer_at (get script.caps.caps p) ≡ Some (q, key) → ⊥
    not_of_it p key apart has =
        let lends = sym lent_before ∙ was_named.lent p q key has in
        let one : IsOne script.caps.caps = (at_script (IsSoundRole store) (core.sound i)).own.named.one in
        apart (one p k key (buffer_key (get script.caps.caps p) q key has) (buffer_key (get script.caps.caps k) q key (changes.tied.lent.has ∙ ap (lent_from q) lends)))

    lent_after : (p r key : ℕ) → buffer_at (get script'.caps.caps p) ≡ Some (r, key) → lent_by (rows_at store' roles') (session_at (get script'.caps.caps r)) ≡ Some key
    lent_after p r key has = elim (cases_eq p k) [
      | inl at ↦
          let its = lent_pair (lent_of is) q r key (sym changes.tied_after.lent.has ∙ ap (λ n. buffer_at (get script'.caps.caps n)) (sym at) ∙ has) in
          ap (λ n. lent_by (rows_at store' roles') (session_at (get script'.caps.caps n))) its.0 ∙ lent_now ∙ its.1
      | inr beside ↦
          let apart : p ≢ q = λ e. none-some (r, key) (sym (tied_no_buffer is changes.tied_after) ∙ ap (λ n. buffer_at (get script'.caps.caps n)) (sym e) ∙ has) in
          let had = ap buffer_at (sym (changes.stays.caps p apart beside)) ∙ has in
          lent_beside r (λ e. not_of_it p key beside (had ∙ ap (λ n. Some (n, key)) e)) ∙ was_named.lent p r key had
    ]

    lends_after : (r key : ℕ) → lent_by (rows_at store' roles') (session_at (get script'.caps.caps r)) ≡ Some key → (p : ℕ) × (buffer_at (get script'.caps.caps p) ≡ Some (r, key))
    lends_after r key lends = elim (cases_eq r q) [
      | inl at ↦
          let now = sym lent_now ∙ ap (λ n. lent_by (rows_at store' roles') (session_at (get script'.caps.caps n))) (sym at) ∙ lends in
          (k, changes.tied_after.lent.has ∙ ap (lent_from q) now ∙ ap (λ n. Some (n, key)) (sym at))
      | inr apart ↦
          let had = was_named.lends r key (sym (lent_beside r apart) ∙ lends) in
          let not_q : had.0 ≢ q = λ e. none-some (r, key) (sym (tied_no_buffer was changes.tied) ∙ ap (λ n. buffer_at (get script.caps.caps n)) (sym e) ∙ had.1) in
          let not_k : had.0 ≢ k = λ e. apart (of_it r key (ap (λ n. buffer_at (get script.caps.caps n)) (sym e) ∙ had.1)).0 in
          (had.0, ap buffer_at (changes.stays.caps had.0 not_q not_k) ∙ had.1)
    ]

    named_after : NamesItsSessions (rows_at store' roles') (AScript script')
    named_after = record {
      its = λ p at one names. elim (cases_eq p q) [
        | inl e ↦
            let row = tied_row is changes.tied_after (at, one) (ap (λ n. session_at (get script'.caps.caps n)) (sym e) ∙ names) in
            record {
              row = row.0;
              there = (λ j. get (rows_at store' roles' (sym (row.1.1) j).0) (sym (row.1.1) j).1.0) ∙ now_there ∙ row.1.0;
              client = ap (λ (a : AccountId). a.0) changes.stays.account ∙ sym (changes.tied_after.client row.0 row.1.0);
            }
        | inr apart ↦
            let was = before p apart (at, one) names in
            let its = was_named.its p at one was in
            record {
              row = its.row;
              there = other_row at one.0 (not_other p at one apart was) ∙ its.there;
              client = ap (λ (a : AccountId). a.0) changes.stays.account ∙ its.client;
            }
      ];
      once = λ p r at a b one two same. elim (cases_eq p q) [
        | inl e ↦ e ∙ sym (same_as_it r at a b (ap (λ n. session_at (get script'.caps.caps n)) (sym e) ∙ one) two same)
        | inr apart ↦ elim (cases_eq r q) [
          | inl e ↦ same_as_it p at b a (ap (λ n. session_at (get script'.caps.caps n)) (sym e) ∙ two) one (sym same) ∙ sym e
          | inr beside ↦ was_named.once p r at a b (before p apart (at, a) one) (before r beside (at, b) two) same
        ]
      ];
      lent = lent_after;
      lends = lends_after;
    }

    -- each account below the client's is that of a session that a selector names
    held_after : (child parent : ℕ) → Pays (roles i) parent → IsChildIn store' child parent → NamesAccount (rows_at store' roles') (AScript script') child parent
    held_after child above its below = elim (cases_eq child account) [
      | inl at ↦
          let row = some_of is (changes.below above (ap (get (parents_in store')) (sym at) ∙ below)) in
          record {
            selector = q;
            server = s;
            session = session;
            names = tied_names is changes.tied_after ∙ ap (option_map (λ _. (s, session))) row.1;
            row = row.0;
            there = now_there ∙ row.1;
            key = changes.tied_after.key row.0 row.1 ∙ sym at;
            its = changes.tied_after.client row.0 row.1 ∙ subst (λ r. Pays r above) is_script its;
          }
      | inr other ↦
          let held = at_script (λ r. NamesAccount (rows_at store roles) r child above) (held_by core i above its calls child (sym (parents child other) ∙ below)) in
          let apart : held.selector ≢ q = λ e.
          let row = tied_row was changes.tied (held.server, held.session) (ap (λ n. session_at (get script.caps.caps n)) (sym e) ∙ held.names) in
          let same : row.0 ≡ held.row = same_Some row.0 held.row (sym (changes.tied.there ∙ row.1.0) ∙ (λ j. get (rows_at store roles (row.1.1 j).0) (row.1.1 j).1.0) ∙ held.there) in
          other (sym held.key ∙ ap (λ (r : Row Labelled). r.key) (sym same) ∙ changes.tied.key row.0 row.1.0) in
          record {
            selector = held.selector;
            server = held.server;
            session = held.session;
            names = same_name held.selector apart ∙ held.names;
            row = held.row;
            there = other_row held.server held.session.0 (not_other held.selector held.server held.session apart held.names) ∙ held.there;
            key = held.key;
            its = held.its;
          }
    ]

    -- no init's account is the session's
    inits_apart : (one : ℕ) → IsInits store roles one → one ≢ account
    inits_apart one its e = elim its [
      | inl root ↦ not_session s session.0 (alone Init (root ∙ e))
      | inr init ↦ no_place init.0 s session.0 (sym (alone (Place init.0) (subst (Pays (roles init.0)) e (init_pays (roles init.0) one init.1))))
    ]

    -- inits' accounts have the parts that they had
    pub inits_rest : InitsRest roles store store'
    inits_rest one its =
        others one (λ e. script_inits core i payer pays_client calls (subst (IsInits store roles) e its)) (inits_apart one its)

    -- a reserve's account rests
    reserve_rests : ReserveRests (roles i) store store'
    reserve_rests one is = others one (not_payer (ReserveAt i) one (other_reserve i) is) (not_account (ReserveAt i) one (other_reserve i) is)

    pub its_reserve : part script.reserve.0 store' ≡ part script.reserve.0 store
    its_reserve = reserve_rests script.reserve.0 (ap reserve_in is_script)

    -- it has that reserve still
    reserve_kept : reserve_in (roles i) ≡ reserve_in (roles' i)
    reserve_kept = ap reserve_in is_script ∙ ap (λ (a : AccountId). Some a.0) (sym changes.stays.reserve) ∙ ap reserve_in (sym replaced.client_at)

    -- no component's account is the session's
    not_place_account : (k one : ℕ) → Pays (roles k) one → one ≢ account
    not_place_account k one its e = no_place k s session.0 (sym (alone (Place k) (subst (Pays (roles k)) e its)))

    same_payer : payer_in (roles i) ≡ payer_in (roles' i)
    same_payer = ap payer_in is_script ∙ ap (λ (a : AccountId). a.0) (sym changes.stays.account) ∙ ap payer_in (sym replaced.client_at)

    -- so the core changes
    pub session_change : HasPlaces (sessions_in store' roles') store' (roles' i) → ChangesCore core.heads i s session.0 store roles store' roles'
    session_change placed = record {
      script = calls;
      others = follows;
      sound = subst (IsSoundRole store') (sym replaced.client_at) changes.sound;
      pays = λ one its. subst (λ r. Pays r one) (sym is_script) (ap (λ (a : AccountId). a.0) (sym changes.stays.account) ∙ subst (λ r. Pays r one) replaced.client_at its);
      reserve = λ one is. reserve_kept ∙ is;
      reserved = λ one is.
          let was = reserve_kept ∙ is in
          let before = core.reserved i one was in
          record {
            beside = parents one (not_account (ReserveAt i) one (other_reserve i) was) ∙ before.beside
                ∙ sym (parents (payer_in (roles i)) (not_place_account i (payer_in (roles i)) (reserve_pays (roles i) one was))) ∙ ap (get (parents_in store')) same_payer;
            unused = subst (λ p. p ≡ opened_part (account_of p).ram_limit (account_of p).caps_limit) (sym (reserve_rests one was)) before.unused;
          };
      rows = other_row;
      row = inr (record {
        was_its = λ row there. subst (λ r. Pays r row.client) (sym is_script) (sym (changes.tied.client row (sym changes.tied.there ∙ there)));
        is_its = λ row there. subst (λ r. Pays r row.client) (sym is_script) (sym (changes.tied_after.client row (sym now_there ∙ there)));
        alone = λ one its owner owns. alone owner (subst (Owns store roles owner) (tied_key is changes.tied_after one (ap (option_map (λ (r : Row Labelled). r.key)) (sym now_there) ∙ its)) owns);
      });
      named = subst (NamesItsSessions (rows_at store' roles')) (sym replaced.client_at) named_after;
      held = λ child parent its below. subst (λ r. NamesAccount (rows_at store' roles') r child parent) (sym replaced.client_at) (held_after child parent its below);
      placed = placed;
      init = open_in_part (root_in store) store' (ap (λ (p : Part). is_some p.account) (inits_rest (root_in store) (inl refl)) ∙ part_open (root_in store) store core.init);
      root = root;
      children = λ k one its _. parents one (not_place_account k one its);
      parents = λ child above below. elim (cases_eq child account) [
        | inl at ↦ inl (subst (Pays (roles i)) (sym (changes.moves.parent above (ap (get (parents_in store')) (sym at) ∙ below))) pays_client)
        | inr other ↦ inr (sym (parents child other) ∙ below)
      ];
      room = changes.moves.room;
    }

-- ---- the components after it

-- so a call whose outcome is known goes as the model's
module _ {store store' : Store} (components components' : List Component) {i s : ℕ} {script script' : Script} (two : AreTwo store (roles_of components) i s script) (d : Component)
    {host host' : Component} {q k account : ℕ} {session : SessionId} {was is : Option (Row Labelled)}
    (host_is : roles_of components s ≡ host.role) (replaced : ReplacesTwo (roles_of components) (roles_of components') i s (AScript script') host'.role) (faces : SameFaces components components')
    (alone : (owner : Owner) → Owns store (roles_of components) owner account → owner ≡ SessionAt s session.0)
    (changes : ChangesSession two.core.heads account s q k session store store' script script' (rows_in store (roles_of components s)) (rows_in store' host'.role) was is) (stays : StaysServer store host store' host')
    (places : Places) (call : Call) (on : is_exit call ≡ false) (aside : is_of_reserve call ≡ false) (reply : Reply) (lines : List LogLine) (told : Told) (text : told.text ≡ reply_text reply) (finished : told.lines ≡ flat_map log_text lines) where
  abbrev roles : Roles
  roles = roles_of components

  abbrev caller : Component
  caller = get_or components i d

  abbrev S : Sessions
  S = sessions_in store (roles_of components)

  abbrev S' : Sessions
  S' = sessions_in store' (roles_of components')

  here : i < length components
  here = place_of components i (λ none. (let no : AScript script ≡ Gone = sym two.is_script ∙ none in cc))

  caller_is : caller.role ≡ AScript script
  caller_is = sym (role_at components i d here) ∙ two.is_script

  pub step_goes : entry_step (entry_of (places i) caller) call (own_at S store script) ≡ record { reply = reply; lines = lines; next = own_at S' store' script' } →
      Goes places call i told store components store' components'
  unfolding own_of
  step_goes outcome =
      let has = amounts_in (part script.reserve.0 store) in
      let now : amounts_in (part script'.reserve.0 store') ≡ amounts_in (part script.reserve.0 store)
      = ap (λ (a : AccountId). amounts_in (part a.0 store')) changes.stays.reserve ∙ ap amounts_in (its_reserve two host_is replaced alone changes stays) in
      let step : own_step (entry_of (places i) caller) call (with_reserve (amounts_in (part script.reserve.0 store)) (own_at S store script))
      ≡ record { reply = reply; lines = lines; next = with_reserve (amounts_in (part script.reserve.0 store)) (own_at S' store' script') }
      = is_step (entry_of (places i) caller) call (with_reserve has (own_at S store script)) (ap kind_of caller_is) refl
      ∙ stands_aside has (own_at S store script) (entry_of (places i) caller) call aside on ∙ ap (outcome_with has) outcome in
      let own_after : own_in S' store' (roles_of components' i) ≡ with_reserve (amounts_in (part script.reserve.0 store)) (own_at S' store' script')
      = ap (own_in S' store') replaced.client_at ∙ ap (λ r. with_reserve r (own_at S' store' script')) now in
      let next = own_after ∙ ap (λ (o : Outcome). o.next) (sym step) ∙ ap (λ r. (own_step (entry_of (places i) caller) call (own_in S store r)).next) (sym two.is_script) in
      let placed = places_kept S S' store store' (roles i) (roles_of components' i) (entry_of (places i) caller) call on next
      (ap places_in replaced.client_at ∙ ap Some changes.stays.places ∙ ap places_in (sym two.is_script)) (two.core.placed i) in
      let change = session_change two host_is replaced alone changes stays placed in
      goes components components' two.core change faces here d places call on
      (same_inits components components' two.core change faces here d (inits_rest two host_is replaced alone changes stays)) told (record { reply = reply; lines = lines; next = with_reserve has (own_at S' store' script') })
      (ap (λ r. own_step (entry_of (places i) caller) call (own_in S store r)) caller_is ∙ step) text finished (sym own_after)

  -- and so does one that is this to the model
  pub session_goes : DoesSession call reply lines s session.0 (option_map (row_session s) was) (option_map (row_session s) is) store script store' script' → Goes places call i told store components store' components'
  session_goes does =
      let ready : HasSessions S script.caps.caps = subst (λ r. HasSessions S (caps_in r)) two.is_script (names_open two.core i) in
      step_goes (does (entry_of (places i) caller) S S' ready (ap kind_of caller_is) (sessions_agree two host_is replaced alone changes stays)
      (ap (option_map (row_session s)) changes.tied.there) (ap (option_map (row_session s)) (now_there two host_is replaced alone changes stays)))
