-- The core as the model sees it, and what is true of it between calls.
use Rattle.std.specs.Prelude.{◌≡◌, ◌⊎◌, ℕ, Bool, true, false, List, ◌∷◌, map, get_or, Some, ◌<◌, length}
use Rattle.std.specs.FinMap.{get}
use Rattle.std.specs.List.{enumerate_from}
use Rattle.std.specs.Option.{option_map}
use Rattle.own_model.specs.NatMap.{NatMap}
use Rattle.own_model.specs.Account.{Account}
use Rattle.own_model.specs.StartList.{Entry, no_account}
use Rattle.own_model.specs.World.{World}
use Rattle.own_model.specs.Session.{Labelled}
use Rattle.dataspace_core.specs.Room.{HasRoom}
use Rattle.dataspace_core.specs.Store.{Store, account_in, root_in, IsOpenIn, IsChildIn}
use Rattle.server_frame.specs.Frame.{Row}
use Rattle.pd_core.specs.Own.{Sessions}
use Rattle.pd_core.specs.Sessions.{row_session}
use Rattle.trade_base.specs.declared.id.SessionId.{SessionId}
use Rattle.pd_core.specs.Sound.{session_at}
use Rattle.pd_core.specs.Component.{Place as ListedPlace, Pays, payer_in, reserve_in, IsReserve, entry_of, caps_in, rows_in, own, NamesItsSessions, HasPlaces, IsSoundRole}
use Rattle.pd_core.specs.declared.component.Component.{Component}
use Rattle.pd_core.specs.declared.component.Role.{Role}
use Rattle.pd_core.specs.declared.component.Role.TheVariants.{Script, Server, Init as AnInit, Gone}

-- the role at each place: past the components it is that of one that has exited
abbrev pub Roles : Type 0
Roles = ℕ → Role

abbrev pub roles_of : List Component → Roles
roles_of components place = get_or (map (λ c. c.role) components) place Gone

-- the sessions of the server at a place, by their keys
abbrev pub rows_at : Store → Roles → ℕ → NatMap (Row Labelled)
rows_at store roles server = rows_in store (roles server)

-- the open sessions, each by its server's place and its key there
abbrev pub sessions_in : Store → Roles → Sessions
sessions_in store roles server session = option_map (row_session server) (get (rows_at store roles server) session)

-- what a start list says of each place
abbrev pub Places : Type 0
Places = ℕ → ListedPlace

-- and of the components there
abbrev pub entries_of : Places → List Component → List Entry
entries_of places components = map (λ c. entry_of (places c.0) c.1) (enumerate_from 0 components)

-- the account that a role has as an init
abbrev pub init_in : Store → Role → Account
init_in store (Script script) = no_account
init_in store (Server account host) = no_account
init_in store (AnInit account) = account_in store account.0
init_in store Gone = no_account

-- the accounts of inits by their numbers: the root's, which is that of the machine's init, and then the components'
abbrev pub inits_of : Store → List Component → List Account
inits_of store components = account_in store (root_in store) ∷ map (λ c. init_in store c.role) components

-- the entries and own states of the components, and inits' accounts
abbrev pub world_of : Places → Store → List Component → World
world_of places store components = record {
  entries = entries_of places components;
  inits = inits_of store components;
  states = map (own (sessions_in store (roles_of components)) store) components;
}

-- the owners of accounts: the machine's init, the component at a place, its reserve, and the session of the server at a
-- place under a key
pub data Owner : Type 0 where
  Init : Owner
  Place : ℕ → Owner
  ReserveAt : ℕ → Owner
  SessionAt : ℕ → ℕ → Owner

-- an account is an owner's
abbrev pub Owns : Store → Roles → Owner → ℕ → Type 0
Owns store roles Init account = root_in store ≡ account
Owns store roles (Place place) account = Pays (roles place) account
Owns store roles (ReserveAt place) account = reserve_in (roles place) ≡ Some account
Owns store roles (SessionAt server id) account = option_map (λ (row : Row Labelled). row.key) (get (rows_at store roles server) id) ≡ Some account

-- a selector of a role names the session on an account, whose client has the other account
pub record NamesAccount (rows : ℕ → NatMap (Row Labelled)) (role : Role) (account client : ℕ) : Type 0 where
  pub selector : ℕ
  pub server : ℕ
  pub session : SessionId
  pub names : session_at (get (caps_in role) selector) ≡ Some (server, session)
  pub row : Row Labelled
  pub there : get (rows server) session.0 ≡ Some row
  pub key : row.key ≡ account
  pub its : row.client ≡ client

-- which accounts components are opened below: those of inits
abbrev pub Heads : Type 0
Heads = ℕ → Bool

-- an account is the one of a role as an init
abbrev pub IsInitOf : Role → ℕ → Type 0
IsInitOf (Script script) account = ⊥
IsInitOf (Server key host) account = ⊥
IsInitOf (AnInit key) account = key.0 ≡ account
IsInitOf Gone account = ⊥

-- an account is that of an init, the machine's or one that is a component
abbrev pub IsInits : Store → Roles → ℕ → Type 0
IsInits store roles account = (root_in store ≡ account) ⊎ ((place : ℕ) × IsInitOf (roles place) account)

-- an account is below that of an init
pub record IsBelowHead (store : Store) (heads : Heads) (account : ℕ) : Type 0 where
  pub head : ℕ
  pub is_head : heads head ≡ true
  pub child : IsChildIn store account head

-- each account that was opened under one that is no init's is that of a session, which a component's selector names
abbrev pub AreHeld : Heads → Store → Roles → Type 0
AreHeld heads store roles =
    (child parent : ℕ) → IsChildIn store child parent → heads parent ≡ false →
    (place : ℕ) × NamesAccount (rows_at store roles) (roles place) child parent

-- no account has two owners
abbrev pub HaveOneOwner : Store → Roles → Type 0
HaveOneOwner store roles = (one other : Owner) (account : ℕ) → Owns store roles one account → Owns store roles other account → one ≡ other

-- it is known which accounts are inits'; the root is one and is open. Each component is sound, its account is below an
-- init's, and its reserve is next to it and unused. No account has two owners, and no init is a session's client. Each
-- session that a component names is its own, and so is the session's buffer. Its capabilities have places, each session is
-- named, and the memory has room for the accounts still to be opened
pub record IsSoundCore (store : Store) (roles : Roles) : Type 0 where
  pub heads : Heads
  pub root_head : heads (root_in store) ≡ true
  pub inits : (account : ℕ) → heads account ≡ true → IsInits store roles account
  pub init : IsOpenIn store (root_in store)
  pub sound : (place : ℕ) → IsSoundRole store (roles place)
  pub children : (place account : ℕ) → Pays (roles place) account → IsBelowHead store heads account
  pub reserved : (place account : ℕ) → reserve_in (roles place) ≡ Some account → IsReserve store (payer_in (roles place)) account
  pub apart : HaveOneOwner store roles
  pub clients : (server id : ℕ) (row : Row Labelled) → get (rows_at store roles server) id ≡ Some row → heads row.client ≡ false
  pub named : (place : ℕ) → NamesItsSessions (rows_at store roles) (roles place)
  pub placed : (place : ℕ) → HasPlaces (sessions_in store roles) store (roles place)
  pub held : AreHeld heads store roles
  pub room : HasRoom heads store

-- so are the components on a memory
abbrev pub IsCore : Store → List Component → Type 0
IsCore store components = IsSoundCore store (roles_of components)

-- the core is sound, and a component is at this place
pub record IsCoreAt (i : ℕ) (store : Store) (components : List Component) : Type 0 where
  pub core : IsCore store components
  pub caller : i < length components
