-- The parts of a core before its first call, and the world that starts with them.
use Rattle.std.specs.Prelude.{◌≡◌, ◌≢◌, ◌⊎◌, ℕ, ◌+◌, ◌*◌, ◌≤◌, true, List, map, Some, IfSome}
use Rattle.std.specs.List.{All, AllPairs, enumerate_from}
use Rattle.std.specs.FinMap.{empty}
use Rattle.own_model.specs.Account.{Account}
use Rattle.own_model.specs.Amounts.{Amounts}
use Rattle.own_model.specs.HeapWindow.{largest_machine}
use Rattle.own_model.specs.StartList.{StartEntry, start_state}
use Rattle.own_model.specs.World.{World}
use Rattle.cap_space.specs.Space.{Space}
use Rattle.region_map.specs.Regions.{Regions}
use Rattle.dataspace_core.specs.Room.{IsOuter, HasRoom}
use Rattle.dataspace_core.specs.Store.{Store, part, account_in, root_in, ram_limits_in, IsOpenIn}
use Rattle.server_kinds.specs.Host.{IsNew}
pub use Rattle.dataspace_core.specs.Store.{opened_part}
use Rattle.pd_core.specs.Component.{Place, host_in, entry_of, payer_of, reserve_of, reserve_held, tables_of, HasNewHeap, IsReserve}
use Rattle.pd_core.specs.Core.{Heads, Places, IsBelowHead, IsInits, inits_of, roles_of}
use Rattle.pd_core.specs.declared.component.Role.{Role}
use Rattle.pd_core.specs.declared.component.Component.{Component}

-- the account that a component is charged on
abbrev pub account_at : Store → Component → Account
account_at store component = account_in store (payer_of component)

-- what a component has in reserve
abbrev pub reserve_at : Store → Component → Amounts
reserve_at store component = reserve_held store component.role

-- what the component at a place starts with: its entry, the limits of its account, and its reserve. Of an init these are what is
-- left of it, and no part of its own state
abbrev pub start_of : Place → Store → Component → StartEntry
start_of place store component = record {
  entry = entry_of place component;
  ram = (account_at store component).ram_limit;
  caps = (account_at store component).caps_limit;
  reserve = reserve_at store component;
}

-- the same of each component, in their order
abbrev pub starts_of : Places → Store → List Component → List StartEntry
starts_of places store components = map (λ c. start_of (places c.0) store c.1) (enumerate_from 0 components)

-- tables of nothing, with a place for each of so many capabilities, room for 128 user regions and for as many heap
-- regions as the machine has pages, and the pages of the machine, which is none too large
pub record AreEmpty (store : Store) (caps : ℕ) (space : Space) (regions : Regions) : Type 0 where
  pub no_caps : space.caps ≡ empty
  pub places : caps ≤ space.places
  pub no_regions : regions.user ≡ empty
  pub most : regions.most ≡ 128
  pub no_heap : regions.heap ≡ empty
  pub heap_most : regions.heap_most ≡ regions.pages
  pub pages : regions.pages * 4096 ≡ ram_limits_in store
  pub few : regions.pages ≤ largest_machine

-- a server has no session
abbrev pub IsNewServer : Store → Role → Type 0
IsNewServer store role = IfSome (host_in role) (IsNew store)

-- a reserve has an account of its own, which isn't the machine's init's
pub record IsFreshReserve (store : Store) (payer reserve : ℕ) : Type 0 where
  pub not_init : reserve ≢ root_in store
  pub apart : reserve ≢ payer
  pub is_reserve : IsReserve store payer reserve

-- a component has an account below an init's, with limits alone, and a script one for its reserve, and it has nothing else
pub record IsFresh (heads : Heads) (store : Store) (component : Component) : Type 0 where
  pub not_init : payer_of component ≢ root_in store
  pub unused : part (payer_of component) store ≡ opened_part (account_at store component).ram_limit (account_at store component).caps_limit
  pub reserve : IfSome (reserve_of component) (λ reserve. IsFreshReserve store (payer_of component) reserve)
  pub tables : IfSome (tables_of component) (λ tables. AreEmpty store ((account_at store component).caps_limit + (reserve_at store component).caps) tables.0 tables.1)
  pub heap : HasNewHeap component.role
  pub child : IsBelowHead store heads (payer_of component)
  pub server : IsNewServer store component.role

-- an account is the component's own or that of its reserve
abbrev pub Has : Component → ℕ → Type 0
Has component account = (payer_of component ≡ account) ⊎ (reserve_of component ≡ Some account)

-- no account is of two components
abbrev pub ShareNone : Component → Component → Type 0
ShareNone c d = (account : ℕ) → Has c account → Has d account → ⊥

-- by which accounts are inits': the machine's init's is one, and open, and each other account is below an init's; each component
-- is fresh, and no two share an account
pub record AreFreshBelow (heads : Heads) (store : Store) (components : List Component) : Type 0 where
  pub root_head : heads (root_in store) ≡ true
  pub inits : (account : ℕ) → heads account ≡ true → IsInits store (roles_of components) account
  pub init : IsOpenIn store (root_in store)
  pub outer : (account : ℕ) → IsOuter heads store account
  pub each : All (IsFresh heads store) components
  pub apart : AllPairs ShareNone components

-- all parts are fresh, and the memory has room for later sessions
pub record AreFresh (store : Store) (components : List Component) : Type 0 where
  pub heads : Heads
  pub parts : AreFreshBelow heads store components
  pub room : HasRoom heads store

-- the world of these starts, in which inits keep what their accounts have
abbrev pub started_world : Places → Store → List Component → World
started_world places store components = record {
  entries = map (λ start. start.entry) (starts_of places store components);
  inits = inits_of store components;
  states = map start_state (starts_of places store components);
}
