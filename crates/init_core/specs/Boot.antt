-- What a boot does to the parts of the machine, entry by entry.
use Rattle.std.specs.Prelude.{◌≡◌, ℕ, zero, suc, ◌+◌, ◌*◌, ◌≤◌, true, List, [], ◌∷◌, length, map, take, drop, Option, Some, None, IfSome}
use Rattle.std.specs.List.{All, slice_get}
use Rattle.std.specs.FinMap.{get}
use Rattle.trade_base.specs.declared.id.AccountId.{AccountId}
use Rattle.own_model.specs.Listed.{Listed, ListedEntry, kind_of, levels_within, most_lists, offer_in, start_of, start_list_of}
use Rattle.own_model.specs.StartList.{StartEntry, AllCovered, Boots, inits_at_first, inits_keep, inits_kept, start_state}
use Rattle.dataspace_core.specs.Store.{Store, OpensPart, accounts_in, root_in, room_in, ram_limits_in, caps_limits_in, IsOpenIn, IsChildIn}
pub use Rattle.pd_core.specs.CodedWorld.{coded_world}
use Rattle.pd_core.specs.Component.{Place, entry_of, offer_of, payer_of, reserve_of, tables_of, HasNewHeap}
use Rattle.pd_core.specs.Core.{Heads, Places, Roles, IsInitOf, IsInits, entries_of, inits_of, roles_of}
use Rattle.pd_core.specs.Fresh.{starts_of, AreEmpty, AreFreshBelow, IsNewServer}
use Rattle.pd_core.specs.SessionCalls.{AreBelowParents}
use Rattle.pd_core.specs.declared.component.Component.{Component}
use Rattle.list_parser.specs.Quota.{first_uncovered}

-- ---- how far a boot is

-- a place without a description
abbrev pub nowhere : Place
nowhere = record { name = []; home = 0; routes = [] }

-- the description of a place in a list; a place after its entries has none
abbrev pub place_of : Listed → Option ListedEntry → Place
place_of list (Some entry) = record { name = entry.path; home = entry.home; routes = levels_within most_lists list entry }
place_of list None = nowhere

abbrev pub places_at : Listed → Places
places_at list place = place_of list (slice_get list.entries place)

-- what is still to start after so many entries
abbrev pub to_come : Listed → ℕ → List StartEntry
to_come list count = drop count (start_list_of list).starts

-- an init opened an account with these limits below its own: a new one, and all limits together stay
pub record Opens (old : Store) (init account ram caps : ℕ) (new : Store) : Type 0 where
  pub free : get (accounts_in old) account ≡ None
  pub part : OpensPart init account ram caps old new
  pub ram_moved : ram_limits_in new ≡ ram_limits_in old
  pub caps_moved : caps_limits_in new ≡ caps_limits_in old

-- each account that was opened below another is open
abbrev pub AreThere : Store → Type 0
AreThere store = (account parent : ℕ) → IsChildIn store account parent → IsOpenIn store account

-- the account of the init of a number: the root's, or that of the init at the place before the number
abbrev pub IsInitAt : Store → Roles → ℕ → ℕ → Type 0
IsInitAt store roles zero account = root_in store ≡ account
IsInitAt store roles (suc place) account = IsInitOf (roles place) account

-- the first `count` entries of a list have started. The parts are fresh, and the keys are those of the root and of each
-- component. Each component is what its entry states, starts with its budget, and is below its init. The rest of each init's
-- account, the shortfall, and whether the list boots depend on the rests so far and on the entries still to start. There is
-- room for the accounts of these, and all limits together are the machine's
pub record HasStarted (list : Listed) (store : Store) (components : List Component) (keys : List AccountId) (count : ℕ) : Type 0 where
  pub heads : Heads
  pub parts : AreFreshBelow heads store components
  pub are_heads : (account : ℕ) → IsInits store (roles_of components) account → heads account ≡ true
  pub there : AreThere store
  pub keys_are : map (λ key. key.0) keys ≡ root_in store ∷ map payer_of components
  pub entries : entries_of (places_at list) components ≡ map (λ entry. (start_of list entry).entry) (take count list.entries)
  pub states : map start_state (starts_of (places_at list) store components) ≡ map (λ entry. start_state (start_of list entry)) (take count list.entries)
  pub offers : map offer_of components ≡ map (λ entry. offer_in entry.binary) (take count list.entries)
  pub names : All (λ c. length c.name.items ≤ 140) components
  pub homes : AreBelowParents (places_at list) store components
  pub inits : inits_kept (start_list_of list) ≡ inits_keep (inits_of store components) (to_come list count)
  pub uncovered : first_uncovered (inits_at_first (start_list_of list)) (start_list_of list).starts ≡ first_uncovered (inits_of store components) (to_come list count)
  pub covered : AllCovered (inits_of store components) (to_come list count) → Boots (start_list_of list)
  pub room : list.caps + length list.entries * 4 ≤ (room_in store + count * 2) * 2 + 1
  pub machine : ram_limits_in store ≡ list.pages * 4096
  pub all_caps : caps_limits_in store ≡ list.caps

-- a component is what an entry says, is charged on the account, has this account for its reserve, if it is a script, and new
-- tables for the machine of the list, with as many places as that has capabilities
pub record IsMade (list : Listed) (entry : ListedEntry) (account : ℕ) (reserve : Option ℕ) (component : Component) : Type 0 where
  pub entry_is : (place : Place) → entry_of place component
      ≡ record { name = place.name; label = entry.label; kind = kind_of entry.binary; home = place.home; routes = place.routes }
  pub short : length component.name.items ≤ 140
  pub account_is : payer_of component ≡ account
  pub reserve_is : reserve_of component ≡ reserve
  pub offer : offer_of component ≡ offer_in entry.binary
  pub tables : (store : Store) (most : ℕ) → ram_limits_in store ≡ list.pages * 4096 → most ≤ list.caps →
      IfSome (tables_of component) (λ tables. AreEmpty store most tables.0 tables.1)
  pub places : IfSome (tables_of component) (λ tables. tables.0.places ≡ list.caps)
  pub heap : HasNewHeap component.role
  pub server : (store : Store) → ram_limits_in store ≡ list.pages * 4096 → caps_limits_in store ≡ list.caps →
      IsNewServer store component.role
