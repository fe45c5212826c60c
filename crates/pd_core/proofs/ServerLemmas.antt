-- Servers, whichever their service is: what is so of each that is sound.
use Rattle.std.proofs.Common.{◌≡◌, ℕ, ◌+◌, ◌*◌, ◌≤◌, Some, false, true≢false, refl, sym, ap, subst, ◌∙◌}
use Rattle.std.proofs.lemmas.Option.{none-some}
use Rattle.std.specs.Prelude.{None, IsSome}
use Rattle.std.specs.FinMap.{get, empty}
use Rattle.trade_base.specs.declared.id.AccountId.{AccountId}
use Rattle.own_model.specs.Account.{Fits}
use Rattle.own_model.specs.OwnHeap.{no_heap}
use Rattle.own_model.specs.Session.{Labelled}
use Rattle.own_model.proofs.NatMapLemmas.{get-empty}
use Rattle.dataspace_core.specs.Room.{HasRoom}
use Rattle.dataspace_core.specs.Store.{Store, part, space_at, account_in, caps_limits_in}
use Rattle.server_frame.specs.Frame.{Row}
use Rattle.server_frame.proofs.RowLaws.{IsNoRows}
use Rattle.server_kinds.specs.Host.{Serves as HostServes, StaysServer as HostStays}
use Rattle.server_kinds.specs.declared.any_server.AnyServer.{AnyServer}
use Rattle.server_kinds.proofs.HostLaws as laws
use Rattle.server_kinds.proofs.HostLaws.{IsPaidRow}
use Rattle.pd_core.specs.Core.{Heads, IsInitOf}
use Rattle.pd_core.specs.Component.{payer_in, reserve_in, caps_in, places_in, rows_in, capacity_in, offer_in, own_in, HasPlace, Works, IsSoundRole, Serves, StaysServer}
use Rattle.pd_core.specs.Own.{Sessions, no_sessions, own_of, no_lent}
use Rattle.pd_core.specs.declared.component.Component.{Component}
use Rattle.pd_core.specs.declared.component.Role.{Role}
use Rattle.pd_core.specs.declared.component.Role.TheVariants.{Script as AScript, Server as AServer, Init as AnInit, Gone as AGone}

-- ---- rows

-- a role with a row is a server
pub server_of_row : (store : Store) (role : Role) (id : ℕ) (row : Row Labelled) → get (rows_in store role) id ≡ Some row → (key : AccountId) × ((host : AnyServer) × (role ≡ AServer key host))
server_of_row store (AScript script) id row there = absurd (none-some row (sym (get-empty id) ∙ there))
server_of_row store (AServer key host) id row there = (key, (host, refl))
server_of_row store (AnInit key) id row there = absurd (none-some row (sym (get-empty id) ∙ there))
server_of_row store AGone id row there = absurd (none-some row (sym (get-empty id) ∙ there))

pub paid_in : (store : Store) (role : Role) → Works store role → (id : ℕ) (row : Row Labelled) → get (rows_in store role) id ≡ Some row → IsPaidRow store row
paid_in store role works id row there =
    let its = server_of_row store role id row there in
    laws.row_paid store its.1.0 (subst (Works store) its.1.1 works) id row (ap (λ r. get (rows_in store r) id) (sym its.1.1) ∙ there)

-- what a session lends is a dataspace that its account pays for
pub lent_paid : (store : Store) (role : Role) → Works store role → (id key : ℕ) (row : Row Labelled) → get (rows_in store role) id ≡ Some row → row.buffer ≡ Some key → get (part row.key store).spaces key ≡ Some (space_at store key).bytes
lent_paid store role works id key row there lends =
    let its = server_of_row store role id row there in
    laws.lent_paid store its.1.0 (subst (Works store) its.1.1 works) id key row (ap (λ r. get (rows_in store r) id) (sym its.1.1) ∙ there) lends

-- ---- servers

-- a sound role works
pub sound_works : (store : Store) (role : Role) → IsSoundRole store role → Works store role
sound_works store (AScript script) sound = tt
sound_works store (AServer account host) sound = sound.works
sound_works store (AnInit key) sound = tt
sound_works store AGone sound = tt

-- who serves is a server
pub is_server : (role : Role) → IsSome (offer_in role) → (key : AccountId) × ((host : AnyServer) × (role ≡ AServer key host))
is_server (AScript script) serves = absurd (true≢false (sym serves))
is_server (AServer key host) serves = (key, (host, refl))
is_server (AnInit key) serves = absurd (true≢false (sym serves))
is_server AGone serves = absurd (true≢false (sym serves))

-- it has no capabilities, no reserve, and no places for either, and is no init; its own state is its account's
pub record IsServing (role : Role) : Type 0 where
  pub caps : caps_in role ≡ empty
  pub no_init : (account : ℕ) → IsInitOf role account → ⊥
  pub reserve : reserve_in role ≡ None
  pub places : places_in role ≡ None
  pub own : (sessions : Sessions) (store : Store) → own_in sessions store role ≡ own_of no_lent no_sessions (part (payer_in role) store) empty empty no_heap empty

pub is_serving : (role : Role) → IsSome (offer_in role) → IsServing role
is_serving role serves =
    subst IsServing (sym (is_server role serves).1.1) (record { caps = refl; no_init = λ account is. is; reserve = refl; places = refl; own = λ sessions store. refl })

-- it has a place for each two capabilities of the machine
pub enough_places : (store : Store) (role : Role) → IsSome (offer_in role) → IsSoundRole store role → caps_limits_in store ≤ capacity_in role * 2 + 1
enough_places store role serves sound =
    let its = is_server role serves in
    subst (λ r. caps_limits_in store ≤ capacity_in r * 2 + 1) (sym its.1.1) (subst (IsSoundRole store) its.1.1 sound).places

-- it is sound where it works, its account is open and it has these places
pub sound_server : (store : Store) (role : Role) → IsSome (offer_in role) → Works store role → IsSome (part (payer_in role) store).account → caps_limits_in store ≤ capacity_in role * 2 + 1 → IsSoundRole store role
sound_server store role serves works is_open places =
    let is = (is_server role serves).1.1 in
    subst (IsSoundRole store) (sym is) (record {
      is_open = subst (λ r. IsSome (part (payer_in r) store).account) is is_open;
      works = subst (Works store) is works;
      places = subst (λ r. caps_limits_in store ≤ capacity_in r * 2 + 1) is places;
    })

-- ---- places

-- the clients of its sessions are no heads
abbrev pub AreClients : Heads → Store → Role → Type 0
AreClients heads store role = (id : ℕ) (row : Row Labelled) → get (rows_in store role) id ≡ Some row → heads row.client ≡ false

-- a sound server has a place for one more session of a client that can pay for it
pub place_in : (heads : Heads) (store : Store) (role : Role) → IsSome (offer_in role) → IsSoundRole store role → AreClients heads store role → HasRoom heads store → (client ram caps : ℕ) → IsNoRows (rows_in store role) client →
    Fits (account_in store client) ram caps → 2 ≤ caps → HasPlace role
place_in heads store role serves sound clients room client ram caps none fits least =
    let its = is_server role serves in
    let is = its.1.1 in
    let is_sound = subst (IsSoundRole store) is sound in
    subst HasPlace (sym is) (laws.host_has_place heads store its.1.0 is_sound.works (subst (AreClients heads store) is clients) room is_sound.places client ram caps
    (subst (λ r. IsNoRows (rows_in store r) client) is none) fits least)

-- ---- the server of a component

-- a component that is a server, on an account
abbrev pub serving_as : Component → AccountId → AnyServer → Component
serving_as component key host = record component { role = AServer key host }

-- which it is where that is its role
pub as_it_is : (component : Component) (key : AccountId) (host : AnyServer) → component.role ≡ AServer key host → serving_as component key host ≡ component
as_it_is component key host is j = record component { role = sym is j }

-- it serves its sessions
pub host_serves_in : {store : Store} {id : ℕ} (component : Component) (key : AccountId) (host : AnyServer) → Serves store (serving_as component key host) id → HostServes store host id
host_serves_in {store} {id} component key host serves = record { works = serves.sound.works; session = laws.has_session store host id serves.row }

-- and after a call of one it is the same but for its server
pub component_stays : {store store' : Store} (component : Component) (key : AccountId) {host host' : AnyServer} → HostStays store host store' host' → StaysServer store (serving_as component key host) store' (serving_as component key host')
component_stays component key stays = record {
  entry = λ place. refl;
  service = ap Some stays.service;
  account = refl;
  capacity = stays.capacity;
  works = stays.works;
  machine = stays.machine;
}
