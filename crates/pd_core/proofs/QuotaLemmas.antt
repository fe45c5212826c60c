-- The accounts of components and of their sessions, as own states tell them.
use Rattle.std.proofs.Common.{◌≡◌, ◌≢◌, ℕ, ◌+◌, add-one, ◌<◌, ◌≤◌, List, Some, IsSome, is_some, length, get_or, refl, sym, ap, subst, ◌∙◌, arith, true≢false}
use Rattle.std.proofs.lemmas.List.{get_or-map}
use Rattle.std.specs.Prelude.{Option, None, Result, Ok, Err}
use Rattle.std.specs.Option.{option_map, option_and_then, ok_or}
use Rattle.std.specs.FinMap.{get, empty}
use Rattle.trade_base.specs.declared.id.AccountId.{AccountId}
use Rattle.trade_base.specs.declared.id.SessionId.{SessionId}
use Rattle.trade_base.specs.declared.refusal.Refusal.{Refusal}
use Rattle.trade_base.specs.declared.refusal.Refusal.TheVariants.{InvalidSession}
use Rattle.own_model.specs.NatMap.{NatMap, picked}
use Rattle.own_model.specs.OwnState.{OwnState, session_named}
use Rattle.own_model.specs.OwnState.Object.{OpenSession}
use Rattle.own_model.specs.Reserve.{no_reserve}
use Rattle.pd_core.specs.declared.script.Script.{Script}
use Rattle.own_model.specs.Session.{Session as AnOpenSession, Labelled, offer_of}
use Rattle.own_model.specs.Account.{Account}
use Rattle.own_model.specs.StartList.{Entry, init_at, no_account}
use Rattle.pd_core.specs.Answer.{CountsLimits}
use Rattle.own_model.specs.Transcript.{nothing, state_at}
use Rattle.own_model.specs.World.{account_at, account_by}
use Rattle.own_model.proofs.NatMapLemmas.{get-empty, get-picked, get-picked_none}
use Rattle.cap_space.specs.declared.cap.Cap.{Cap}
use Rattle.cap_space.specs.declared.cap.Cap.TheVariants.{Dataspace, RpcObject, Session, Buffer}
use Rattle.object_kinds.specs.Offered.{offered_kinds}
use Rattle.dataspace_core.specs.Store.{Store, Part, part, account_in}
use Rattle.dataspace_core.proofs.PartLaws.{account_of-part}
use Rattle.server_frame.specs.Frame.{Row}
use Rattle.server_kinds.proofs.HostLaws.{row_offer}
use Rattle.server_kinds.specs.Host.{offer_of as offer_of_host}
use Rattle.server_kinds.specs.declared.any_server.AnyServer.{AnyServer}
use Rattle.pd_core.specs.Own.{Sessions, no_sessions, object_of, own_of, part_at, Lent, lent_in, no_lent}
use Rattle.pd_core.specs.Component.{Pays, kind_of, caps_in, rows_in, own_in, own, rows_of}
use Rattle.pd_core.specs.Core.{Places, init_in, inits_of, roles_of, rows_at, sessions_in, world_of, IsCore}
use Rattle.pd_core.specs.Exit.{HasSelectorsTo}
use Rattle.pd_core.specs.Sessions.{row_session}
use Rattle.pd_core.specs.SessionCalls.{named_in}
use Rattle.pd_core.specs.Sound.{session_at}
use Rattle.pd_core.proofs.SessionBetweenLemmas.{its as named_row}
use Rattle.pd_core.proofs.SessionRefusedLemmas.{no_space}
use Rattle.pd_core.proofs.SessionWorldLemmas.{Names, named_two, named_cap, host_within}
use Rattle.pd_core.proofs.CoreWorldLemmas.{entries_at, role_at}
use Rattle.pd_core.specs.declared.component.Component.{Component}
use Rattle.pd_core.specs.declared.component.Role.{Role}
use Rattle.pd_core.specs.declared.component.Role.TheVariants.{Script as AScript, Server as AServer, Init as AnInit, Gone as AGone}

-- ---- a component's account

-- a role's account is the one that it pays with: an init's is no part of its own state
account_of_role : (sessions : Sessions) (store : Store) (role : Role) (account : ℕ) → Pays role account →
    account_by (kind_of role) (init_in store role) (own_in sessions store role).account ≡ account_in store account
unfolding own_of
account_of_role sessions store (AScript script) account pays = account_of-part script.account.0 store ∙ ap (account_in store) pays
account_of_role sessions store (AServer key host) account pays = account_of-part key.0 store ∙ ap (account_in store) pays
account_of_role sessions store (AnInit key) account pays = ap (account_in store) pays
account_of_role sessions store AGone account pays = absurd pays

-- so it is where a role is known
pub account_of_known : (sessions : Sessions) (store : Store) (role known : Role) (account : ℕ) → role ≡ known → Pays known account →
    account_in store account ≡ account_by (kind_of role) (init_in store role) (own_in sessions store role).account
account_of_known sessions store role known account is pays = sym (account_of_role sessions store role account (subst (λ r. Pays r account) (sym is) pays))

-- who is no script has nothing in reserve
pub none_in_reserve : (sessions : Sessions) (store : Store) (role : Role) → ((script : Script) → role ≢ AScript script) → no_reserve ≡ (own_in sessions store role).reserve
unfolding own_of
none_in_reserve sessions store (AScript script) other = absurd (other script refl)
none_in_reserve sessions store (AServer account host) other = refl
none_in_reserve sessions store (AnInit key) other = refl
none_in_reserve sessions store AGone other = refl

-- a component's own state is the one at its place of the world
own_at_place : (places : Places) (store : Store) (components : List Component) (i : ℕ) (d : Component) → i < length components →
    state_at (world_of places store components).states i ≡ own (sessions_in store (roles_of components)) store (get_or components i d)
own_at_place places store components i d here = get_or-map (own (sessions_in store (roles_of components)) store) components i d nothing here

-- and so is its account, an init's among inits'
pub account_at_place : (places : Places) (store : Store) (components : List Component) (i : ℕ) (d : Component) → i < length components →
    account_at (world_of places store components) i
    ≡ account_by (kind_of (get_or components i d).role) (init_in store (get_or components i d).role) (own (sessions_in store (roles_of components)) store (get_or components i d)).account
account_at_place places store components i d here =
    let kind = ap (λ (e : Entry). e.kind) (entries_at places components i d here) in
    let init : init_at (inits_of store components) (i + 1) ≡ init_in store (get_or components i d).role
    = ap (init_at (inits_of store components)) (add-one i) ∙ get_or-map (λ (c : Component). init_in store c.role) components i d no_account here in
    let own = ap (λ (s : OwnState). s.account) (own_at_place places store components i d here) in
    λ j. account_by (kind j) (init j) (own j)

-- the limits of that are those of both together
limits_of_role : (sessions : Sessions) (store : Store) (role : Role) →
    CountsLimits (account_by (kind_of role) (init_in store role) (own_in sessions store role).account) (init_in store role) (own_in sessions store role).account
unfolding own_of
limits_of_role sessions store (AScript script) = record { ram = omega arith; caps = omega arith }
limits_of_role sessions store (AServer key host) = record { ram = omega arith; caps = omega arith }
limits_of_role sessions store (AnInit key) = record { ram = omega arith; caps = omega arith }
limits_of_role sessions store AGone = record { ram = omega arith; caps = omega arith }

pub limits_at_place : (places : Places) (store : Store) (components : List Component) (i : ℕ) (d : Component) (told : Account) → i < length components →
    told ≡ account_by (kind_of (get_or components i d).role) (init_in store (get_or components i d).role) (own (sessions_in store (roles_of components)) store (get_or components i d)).account →
    CountsLimits told (init_at (world_of places store components).inits (i + 1)) (state_at (world_of places store components).states i).account
limits_at_place places store components i d told here is =
    let init : init_at (inits_of store components) (i + 1) ≡ init_in store (get_or components i d).role
    = ap (init_at (inits_of store components)) (add-one i) ∙ get_or-map (λ (c : Component). init_in store c.role) components i d no_account here in
    let own = ap (λ (s : OwnState). s.account) (own_at_place places store components i d here) in
    subst (λ (a : Account × (Account × Account)). CountsLimits a.0 a.1.0 a.1.1) (λ j. (sym is j, (sym init j, sym own j)))
    (limits_of_role (sessions_in store (roles_of components)) store (get_or components i d).role)

-- and its reserve
pub reserve_at_place : (places : Places) (store : Store) (components : List Component) (i : ℕ) (d : Component) → i < length components →
    (state_at (world_of places store components).states i).reserve ≡ (own (sessions_in store (roles_of components)) store (get_or components i d)).reserve
reserve_at_place places store components i d here = ap (λ (s : OwnState). s.reserve) (own_at_place places store components i d here)

-- ---- the last selector

-- a capability space has nothing past the selectors in use
none_past : (last : ℕ) (caps : NatMap Cap) → ((q : ℕ) → IsSome (get caps q) → (1 ≤ q) × (q ≤ last)) → (q : ℕ) → last < q → get caps q ≡ None
none_past last caps to q past = elim (get caps q) as (λ o. get caps q ≡ o → get caps q ≡ None) [
  | None ↦ λ free. free
  | Some cap ↦ λ there. let within = to q (ap is_some there) in absurd (omega (arith, past, within.1))
] refl

-- without a capability no selector is in use
pub no_caps : (role : Role) → caps_in role ≡ empty → HasSelectorsTo 0 role
no_caps role none q taken = absurd (true≢false (sym taken ∙ ap is_some (ap (λ (m : NatMap Cap). get m q) none ∙ get-empty q)))

-- a selector without a capability names nothing
no_object : (sessions : Sessions) (store : Store) (role : Role) (q : ℕ) → get (caps_in role) q ≡ None → get (own_in sessions store role).selectors q ≡ None
unfolding own_of
no_object sessions store (AScript script) q none = get-picked_none (object_of (lent_in store) sessions (part_at store script)) script.caps.caps q none
no_object sessions store (AServer account host) q none = get-picked_none (object_of no_lent no_sessions (part account.0 store)) empty q none
no_object sessions store (AnInit key) q none = get-empty q
no_object sessions store AGone q none = get-empty q

-- so at each place of the world none does past the selectors in use
pub none_at_place : (places : Places) (store : Store) (components : List Component) (i : ℕ) (d : Component) (last : ℕ) → i < length components → d ≡ get_or components i d →
    HasSelectorsTo last d.role → (q : ℕ) → last < q → get (state_at (world_of places store components).states i).selectors q ≡ None
none_at_place places store components i d last here read to q past =
    let S = sessions_in store (roles_of components) in
    ap (λ (s : OwnState). get s.selectors q) (own_at_place places store components i d here ∙ ap (own S store) (sym read)) ∙ no_object S store d.role q (none_past last (caps_in d.role) to q past)

-- ---- the sessions that selectors name

-- an open session is itself
itself : (o : Option AnOpenSession) → session_named (option_map OpenSession o) ≡ o
itself None = refl
itself (Some session) = refl

-- the open session that a selector is found to name, if it names one
abbrev pub found_in : Sessions → Result (ℕ × SessionId) Refusal → Option AnOpenSession
found_in sessions (Ok named) = sessions named.0 named.1.0
found_in sessions (Err refusal) = None

-- what a selector has names the one that is found
by_cap : (L : Lent) (sessions : Sessions) (part : Part) (o : Option Cap) → session_named (option_and_then (object_of L sessions part) o) ≡ found_in sessions (ok_or (session_at o) InvalidSession)
by_cap L sessions part None = refl
by_cap L sessions part (Some (Dataspace ds)) = no_space (get part.spaces ds.0)
by_cap L sessions part (Some RpcObject) = refl
by_cap L sessions part (Some (Buffer space session)) = refl
by_cap L sessions part (Some (Session server session)) = itself (sessions server session.0)

-- a server's own state names none
by_none : (part : Part) (q : ℕ) → session_named (get (picked (object_of no_lent no_sessions part) empty) q) ≡ None
by_none part q = ap session_named (get-picked (object_of no_lent no_sessions part) empty q ∙ ap (option_and_then (object_of no_lent no_sessions part)) (get-empty q))

by_role : (sessions : Sessions) (store : Store) (role : Role) (q : ℕ) → session_named (get (own_in sessions store role).selectors q) ≡ found_in sessions (named_in role q)
unfolding own_of
by_role sessions store (AScript script) q =
    let part = part_at store script in
    ap session_named (get-picked (object_of (lent_in store) sessions part) script.caps.caps q) ∙ by_cap (lent_in store) sessions part (get script.caps.caps q)
by_role sessions store (AServer account host) q = by_none (part account.0 store) q
by_role sessions store (AnInit key) q = ap session_named (get-empty q)
by_role sessions store AGone q = ap session_named (get-empty q)

-- so it is at each place of the world
pub session_at_place : (places : Places) (store : Store) (components : List Component) (i : ℕ) (d : Component) (q : ℕ) → i < length components →
    session_named (get (state_at (world_of places store components).states i).selectors q) ≡ found_in (sessions_in store (roles_of components)) (named_in (get_or components i d).role q)
session_at_place places store components i d q here =
    ap (λ (s : OwnState). session_named (get s.selectors q)) (own_at_place places store components i d here)
    ∙ by_role (sessions_in store (roles_of components)) store (get_or components i d).role q

-- by what is read of the component there
pub named_at_place : (places : Places) (store : Store) (components : List Component) (i : ℕ) (d : Component) (q : ℕ) (found : Result (ℕ × SessionId) Refusal) → i < length components → d ≡ get_or components i d → named_in d.role q ≡ found →
    session_named (get (state_at (world_of places store components).states i).selectors q) ≡ found_in (sessions_in store (roles_of components)) found
named_at_place places store components i d q found here read is =
    session_at_place places store components i d q here
    ∙ ap (λ (c : Component). found_in (sessions_in store (roles_of components)) (named_in c.role q)) (sym read)
    ∙ ap (found_in (sessions_in store (roles_of components))) is

-- a session of a component is of the kinds that the component offers
pub row_of_kinds : (store : Store) (role : Role) (id : ℕ) (row : Row Labelled) → get (rows_in store role) id ≡ Some row → (key : AccountId) (host : AnyServer) → role ≡ AServer key host →
    offered_kinds (offer_of row.value.state) ≡ offered_kinds (offer_of_host host)
row_of_kinds store role id row there key host is = ap offered_kinds (row_offer store host id row (ap (λ r. get (rows_in store r) id) (sym is) ∙ there))

-- a session that is found is in its server's table
pub record IsServed (store : Store) (components : List Component) (named : ℕ × SessionId) : Type 0 where
  pub row : Row Labelled
  pub there : get (rows_at store (roles_of components) named.0) named.1.0 ≡ Some row
  pub within : named.0 < length components
  pub its : (d : Component) → get (rows_of store (get_or components named.0 d)) named.1.0 ≡ Some row

pub served_where : {store : Store} {components : List Component} {i : ℕ} {d : Component} (q : ℕ) {named : ℕ × SessionId} →
    IsCore store components → i < length components → d ≡ get_or components i d → named_in d.role q ≡ Ok named → IsServed store components named
served_where {store} {components} {i} {d} q {named} core here read is =
    let names : Names store components i d q named = record { core = core; here = here; is = ap (λ (c : Component). named_in c.role q) (sym read) ∙ is } in
    let two = named_two names in
    let within = host_within components named.0 two.serving in
    let its = named_row two q named.1 (named_cap names) in
    record { row = its.row; there = its.there; within = within; its = λ e. ap (λ r. get (rows_in store r) named.1.0) (sym (role_at components named.0 e within)) ∙ its.there }

-- and a session that is found is the one that the own state has
pub served_at_place : (places : Places) (store : Store) (components : List Component) (i : ℕ) (d : Component) (q : ℕ) (named : ℕ × SessionId) → i < length components → d ≡ get_or components i d → named_in d.role q ≡ Ok named →
    (served : IsServed store components named) → session_named (get (state_at (world_of places store components).states i).selectors q) ≡ Some (row_session named.0 served.row)
served_at_place places store components i d q named here read is served =
    named_at_place places store components i d q (Ok named) here read is ∙ ap (option_map (row_session named.0)) served.there
