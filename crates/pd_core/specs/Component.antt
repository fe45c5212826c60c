-- A component as the model sees it.
use Rattle.std.specs.Prelude.{◌≡◌, ◌≢◌, ℕ, List, false, ◌+◌, ◌*◌, ◌≤◌, Option, Some, None, IsSome, IsSomeAnd, IfSome}
use Rattle.std.specs.FinMap.{get, empty}
use Rattle.std.specs.Option.{option_map, unwrap_or}
use Rattle.trade_base.specs.declared.id.SessionId.{SessionId}
use Rattle.own_model.specs.Amounts.{Amounts}
use Rattle.own_model.specs.Limits.{caps_limits}
use Rattle.own_model.specs.NatMap.{NatMap}
use Rattle.own_model.specs.OwnHeap.{no_heap}
use Rattle.own_model.specs.OwnState.{OwnState}
use Rattle.own_model.specs.OwnStep.{exited_state}
use Rattle.own_model.specs.Reserve.{no_reserve}
use Rattle.own_model.specs.Offer.{Offer}
use Rattle.own_model.specs.Routes.{Level}
use Rattle.own_model.specs.StartList.{Entry, Kind}
use Rattle.own_model.specs.StartList.Kind.{Script as AScript, Server as AServer, Init as AnInit}
use Rattle.own_model.specs.Session.{Labelled}
use Rattle.cap_space.specs.Space.{Space}
use Rattle.cap_space.specs.declared.cap.Cap.{Cap}
use Rattle.region_map.specs.Regions.{Regions}
use Rattle.dataspace_core.specs.Store.{Store, Part, part, account_of, opened_part, root_in, parents_in, room_in, ram_limits_in, caps_limits_in, IsOpenIn, IsChildIn, IsLeafIn}
use Rattle.heap_core.specs.Heap.{payer_of as heap_payer}
use Rattle.sliced_heap.specs.Heap.{payer_of as sliced_payer}
use Rattle.server_frame.specs.Frame.{Row}
use Rattle.server_kinds.specs.Host.{offer_of as offer_of_host, rows_of as rows_of_host, capacity_of, HasPlace as HostHasPlace, Works as HostWorks}
use Rattle.server_kinds.specs.declared.any_server.AnyServer.{AnyServer}
use Rattle.pd_core.specs.Own.{Sessions, no_sessions, no_lent, own_of, own_at}
use Rattle.pd_core.specs.Sound.{session_at, buffer_at, IsNewHeap, IsNewSliced, IsSoundScript, SparesOthers}
use Rattle.pd_core.specs.declared.component.Role.{Role}
use Rattle.pd_core.specs.declared.component.Role.TheVariants.{Script, Server, Init, Gone}
use Rattle.pd_core.specs.declared.component.Component.{Component}
use Rattle.pd_core.specs.declared.script.Script.{Script as AnyScript}

-- the script of a role
abbrev pub script_in : Role → Option AnyScript
script_in (Script script) = Some script
script_in (Server account host) = None
script_in (Init account) = None
script_in Gone = None

-- its server
abbrev pub host_in : Role → Option AnyServer
host_in (Script script) = None
host_in (Server account host) = Some host
host_in (Init account) = None
host_in Gone = None

-- an account is a role's: one that has exited has none
abbrev pub Pays : Role → ℕ → Type 0
Pays (Script script) account = script.account.0 ≡ account
Pays (Server key host) account = key.0 ≡ account
Pays (Init key) account = key.0 ≡ account
Pays Gone account = ⊥

-- the key of the account that a role is charged on, and 0 of one that has exited
abbrev pub payer_in : Role → ℕ
payer_in (Script script) = script.account.0
payer_in (Server account host) = account.0
payer_in (Init account) = account.0
payer_in Gone = 0

-- that of a component
abbrev pub payer_of : Component → ℕ
payer_of component = payer_in component.role

-- the key of the account that a role has for its reserve
abbrev pub reserve_in : Role → Option ℕ
reserve_in role = option_map (λ script. script.reserve.0) (script_in role)

-- that of a component
abbrev pub reserve_of : Component → Option ℕ
reserve_of component = reserve_in component.role

-- an account is open, with limits and nothing else
abbrev pub IsUnused : Store → ℕ → Type 0
IsUnused store account = part account store ≡ opened_part (account_of (part account store)).ram_limit (account_of (part account store)).caps_limit

-- an account is that of a reserve: below the account that its component's own is below, and unused
pub record IsReserve (store : Store) (payer account : ℕ) : Type 0 where
  pub beside : get (parents_in store) account ≡ get (parents_in store) payer
  pub unused : IsUnused store account

-- a role's reserve is another account than the role's own
abbrev pub HasReserveApart : Role → Type 0
HasReserveApart role = IfSome (reserve_in role) (λ reserve. reserve ≢ payer_in role)

-- it is one, and neither the account above it nor one with an account below it
pub record IsOwnReserve (store : Store) (payer reserve : ℕ) : Type 0 where
  pub apart : reserve ≢ payer
  pub not_above : IsChildIn store payer reserve → ⊥
  pub is_reserve : IsReserve store payer reserve
  pub leaf : IsLeafIn store reserve

abbrev pub HasOwnReserve : Store → Role → Type 0
HasOwnReserve store role = IfSome (reserve_in role) (λ reserve. IsOwnReserve store (payer_in role) reserve)

abbrev pub kind_of : Role → Kind
kind_of (Script script) = AScript
kind_of (Server account host) = AServer
kind_of (Init account) = AnInit
kind_of Gone = AScript

-- a script's capabilities and regions
abbrev pub tables_in : Role → Option (Space × Regions)
tables_in role = option_map (λ script. (script.caps, script.regions)) (script_in role)

abbrev pub tables_of : Component → Option (Space × Regions)
tables_of component = tables_in component.role

-- the description of a component's place in a start list: the name by which lines call it, the number of its init, and the
-- routes of its session requests
pub record Place : Type 0 where
  pub name : List ℕ
  pub home : ℕ
  pub routes : List Level

-- its entry: the component's own name is the label under which it opens sessions
abbrev pub entry_of : Place → Component → Entry
entry_of place component = record {
  name = place.name;
  label = component.name.items;
  kind = kind_of component.role;
  home = place.home;
  routes = place.routes;
}

-- a component's entry is unchanged at each place
abbrev pub EntryStays : Component → Component → Type 0
EntryStays before after = (place : Place) → entry_of place after ≡ entry_of place before

-- what a role offers to each session, if it is a server
abbrev pub offer_in : Role → Option Offer
offer_in role = option_map offer_of_host (host_in role)

-- what a component offers
abbrev pub offer_of : Component → Option Offer
offer_of component = offer_in component.role

-- a script's heaps are new, and take their blocks for the script's account
pub record HasNewHeaps (script : AnyScript) : Type 0 where
  pub heap : IsNewHeap script.heap
  pub sliced : IsNewSliced script.sliced
  pub heap_pays : heap_payer script.heap ≡ script.account.0
  pub sliced_pays : sliced_payer script.sliced ≡ script.account.0

abbrev pub HasNewHeap : Role → Type 0
HasNewHeap (Script script) = HasNewHeaps script
HasNewHeap (Server account host) = Unit {0}
HasNewHeap (Init account) = Unit {0}
HasNewHeap Gone = ⊥

-- ---- sessions

-- a script's capabilities, and none of a server
abbrev pub caps_in : Role → NatMap Cap
caps_in role = unwrap_or (option_map (λ script. script.caps.caps) (script_in role)) empty

abbrev pub caps_of : Component → NatMap Cap
caps_of component = caps_in component.role

-- how many capabilities find a place with a script
abbrev pub places_in : Role → Option ℕ
places_in role = option_map (λ script. script.caps.places) (script_in role)

abbrev pub places_of : Component → Option ℕ
places_of component = places_in component.role

-- the sessions that a component serves, by their keys
abbrev pub rows_in : Store → Role → NatMap (Row Labelled)
rows_in store role = unwrap_or (option_map (rows_of_host store) (host_in role)) empty

abbrev pub rows_of : Store → Component → NatMap (Row Labelled)
rows_of store component = rows_in store component.role

-- how many sessions find a place with a server
abbrev pub capacity_in : Role → ℕ
capacity_in role = unwrap_or (option_map capacity_of (host_in role)) 0

-- there is a place for one more
abbrev pub HasPlace : Role → Type 0
HasPlace role = IsSomeAnd (host_in role) HostHasPlace

-- a server works on this memory
abbrev pub Works : Store → Role → Type 0
Works store role = IfSome (host_in role) (HostWorks store)

-- a session is there, and its client's account is the role's
pub record IsSessionOf (role : Role) (session : Option (Row Labelled)) : Type 0 where
  pub row : Row Labelled
  pub there : session ≡ Some row
  pub client : Pays role row.client

-- the key of a session's buffer, if there is a row of the session and it has a buffer
abbrev pub lent_of : Option (Row Labelled) → Option ℕ
lent_of (Some row) = row.buffer
lent_of None = None

-- the same of the session that a selector names, if it names one
abbrev pub lent_by : (ℕ → NatMap (Row Labelled)) → Option (ℕ × SessionId) → Option ℕ
lent_by rows (Some named) = lent_of (get (rows named.0) named.1.0)
lent_by rows None = None

-- each session that a selector of a role names is the role's, and no other selector names it; and the role's buffers are what
-- its sessions lend: each is of the one under its session's selector, and each that is lent has a selector
pub record NamesItsSessions (rows : ℕ → NatMap (Row Labelled)) (role : Role) : Type 0 where
  pub its : (selector server : ℕ) (session : SessionId) → session_at (get (caps_in role) selector) ≡ Some (server, session) →
      IsSessionOf role (get (rows server) session.0)
  pub once : (p q server : ℕ) (a b : SessionId) →
      session_at (get (caps_in role) p) ≡ Some (server, a) → session_at (get (caps_in role) q) ≡ Some (server, b) → a.0 ≡ b.0 → p ≡ q
  pub lent : (selector q key : ℕ) → buffer_at (get (caps_in role) selector) ≡ Some (q, key) →
      lent_by rows (session_at (get (caps_in role) q)) ≡ Some key
  pub lends : (q key : ℕ) → lent_by rows (session_at (get (caps_in role) q)) ≡ Some key →
      (selector : ℕ) × (buffer_at (get (caps_in role) selector) ≡ Some (q, key))

-- ---- the own state

-- what the account of a reserve has
abbrev pub amounts_in : Part → Amounts
amounts_in part = record { ram = (account_of part).ram_limit; caps = (account_of part).caps_limit }

-- what a role has in reserve
abbrev pub reserve_held : Store → Role → Amounts
reserve_held store role = unwrap_or (option_map (λ account. amounts_in (part account store)) (reserve_in role)) no_reserve

-- an own state with a reserve
abbrev pub with_reserve : Amounts → OwnState → OwnState
with_reserve reserve s = record s { reserve = reserve }

-- the own state of an init: it has nothing by itself, for its account is one of inits
abbrev pub init_state : OwnState
init_state = record exited_state { gone = false }

-- the own state of a role: a script's has its reserve, a server has its account alone, and an init and an exited component
-- have nothing
abbrev pub own_in : Sessions → Store → Role → OwnState
own_in sessions store (Script script) = with_reserve (amounts_in (part script.reserve.0 store)) (own_at sessions store script)
own_in sessions store (Server account host) = own_of no_lent no_sessions (part account.0 store) empty empty no_heap empty
own_in sessions store (Init account) = init_state
own_in sessions store Gone = exited_state

-- the component's own state
abbrev pub own : Sessions → Store → Component → OwnState
own sessions store component = own_in sessions store component.role

-- there is a place for each capability that a script and its sessions can pay for
abbrev pub HasPlaces : Sessions → Store → Role → Type 0
HasPlaces sessions store role = IfSome (places_in role) (λ places. caps_limits (own_in sessions store role) ≤ places)

-- a server's account is open, it works on this memory, and it has a place for each two capabilities of the machine
pub record IsSoundServer (store : Store) (account : ℕ) (host : AnyServer) : Type 0 where
  pub is_open : IsSome (part account store).account
  pub works : HostWorks store host
  pub places : caps_limits_in store ≤ capacity_of host * 2 + 1

-- a script is sound, and so is a server; the account of an init is open
abbrev pub IsSoundRole : Store → Role → Type 0
IsSoundRole store (Script script) = IsSoundScript store script
IsSoundRole store (Server account host) = IsSoundServer store account.0 host
IsSoundRole store (Init account) = IsOpenIn store account.0
IsSoundRole store Gone = Unit {0}

abbrev pub IsSound : Store → Component → Type 0
IsSound store component = IsSoundRole store component.role

-- after a call of one of its sessions a server works on the memory, and is unchanged except for its sessions; so are all
-- limits of RAM together
pub record StaysServer (old : Store) (before : Component) (new : Store) (after : Component) : Type 0 where
  pub entry : EntryStays before after
  pub service : offer_of after ≡ offer_of before
  pub account : payer_of after ≡ payer_of before
  pub capacity : capacity_in after.role ≡ capacity_in before.role
  pub works : Works new after.role
  pub machine : ram_limits_in new ≡ ram_limits_in old

-- a sound component serves a session
pub record Serves (store : Store) (component : Component) (id : ℕ) : Type 0 where
  pub sound : IsSound store component
  pub row : IsSome (get (rows_of store component) id)

-- a script's call that is neither of sessions, nor of the reserve, nor an exit keeps the component sound. These stay: its
-- entry, service, account and reserve, its limit of capabilities and its places for them, the sessions and buffers that its
-- selectors name, and what it serves. So do the root's key, each account's parent, the places for accounts and the sum of
-- all limits of RAM. The parts of all other accounts stay too, except for a session's buffer into which the call writes
pub record Keeps (old : Store) (before : Component) (new : Store) (after : Component) : Type 0 where
  pub sound : IsSound new after
  pub entry : EntryStays before after
  pub service : offer_of after ≡ offer_of before
  pub pays : (account : ℕ) → Pays after.role account → Pays before.role account
  pub paid : (account : ℕ) → Pays before.role account → Pays after.role account
  pub reserve : reserve_of after ≡ reserve_of before
  pub is_open : IsSome (part (payer_of before) new).account
  pub caps_limit : (account_of (part (payer_of before) new)).caps_limit ≡ (account_of (part (payer_of before) old)).caps_limit
  pub places : places_of after ≡ places_of before
  pub sessions : (selector : ℕ) → session_at (get (caps_of after) selector) ≡ session_at (get (caps_of before) selector)
  pub buffers : (selector : ℕ) → buffer_at (get (caps_of after) selector) ≡ buffer_at (get (caps_of before) selector)
  pub rows : rows_of new after ≡ rows_of old before
  pub root : root_in new ≡ root_in old
  pub parents : parents_in new ≡ parents_in old
  pub room : room_in new ≡ room_in old
  pub others : SparesOthers (payer_of before) (caps_of before) old new
  pub limits : ram_limits_in new ≡ ram_limits_in old
