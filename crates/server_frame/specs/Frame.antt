-- What a contract sees of a server: its sessions, each by itself.
use Rattle.std.specs.Prelude.{◌≡◌, ◌≢◌, ℕ, ◌+◌, ◌≤◌, List, Option, Some, None}
use Rattle.std.specs.FinMap.{get, insert, remove}
use Rattle.slab.specs.Slab.{Slab, slab_len}
use Rattle.slab.specs.Slab as slab
use Rattle.own_model.specs.Account.{Account}
use Rattle.own_model.specs.NatMap.{NatMap}
use Rattle.own_model.specs.Region.{Region}
use Rattle.own_model.specs.Session.{session_account}
use Rattle.quota_core.specs.SlabMap.{map_of}
use Rattle.region_map.specs.Regions.{Regions}
use Rattle.dataspace_core.specs.Store.{Store, part, parted_part, space_at, accounts_in, account_in, root_in, room_in, parents_in, IsOpenIn, IsChildIn, IsLeafIn, ClosesPart, OtherPartsStay}
use Rattle.dataspace_core.specs.Share.{Share}
use Rattle.sliced_heap.specs.Heap.{payer_of, MapsMemory}
use Rattle.sliced_heap.specs.declared.heap.SlicedHeap.{SlicedHeap}
use Rattle.server_frame.specs.SessionBuffer.{IsEffect, bytes_lent}
use Rattle.server_frame.specs.Session.{Served, IsSessionAccount, IsSessionHeap, HasBlocksAlone, holding_at, holding_of}
use Rattle.server_frame.specs.declared.effect.Effect.{Effect}
use Rattle.server_frame.specs.declared.server.Session.{Session}

-- an open session: its client's account, its own account under its key, its value, and the key of the dataspace that it
-- lends its client, if it lends one
pub record Row (Value : Type 0) : Type 0 where
  pub client : ℕ
  pub key : ℕ
  pub account : Account
  pub value : Value
  pub buffer : Option ℕ

-- a session, read out of what the server keeps and out of what the session's account has
abbrev pub row_of : {T V : Type 0} → (T → Share → V) → (T → Option ℕ) → Store → Regions → Session T → Row V
row_of value buffer store regions session = record {
  client = session.client.0;
  key = session.account.0;
  account = account_in store session.account.0;
  value = value session.state (holding_at session.account.0 store regions);
  buffer = buffer session.state;
}

-- the open sessions of a server, by their keys
abbrev pub sessions_of : {T V : Type 0} → (T → Share → V) → (T → Option ℕ) → Slab (Session T) → Store → Regions → NatMap (Row V)
sessions_of value buffer sessions store regions = map_of (row_of value buffer store regions) sessions

-- what a request does to a session, as a step of its service has it
abbrev pub row_served : {V : Type 0} → (List ℕ → Account → Option (List ℕ) → V → Served V) → List ℕ → Store → Row V → Served V
row_served step request store row = step request row.account (bytes_lent store row.buffer) row.value

-- a fact of the session under a key, if there is one
abbrev pub AtRow : {V : Type 0} → NatMap (Row V) → ℕ → (Row V → Type 0) → Type 0
AtRow {V} rows id P = (row : Row V) → get rows id ≡ Some row → P row

abbrev pub AtSession : {T V : Type 0} → (T → Share → V) → (T → Option ℕ) → Slab (Session T) → Store → Regions → ℕ → (Row V → Type 0) → Type 0
AtSession value buffer sessions store regions id P = AtRow (sessions_of value buffer sessions store regions) id P

-- ---- what is true between calls

-- a session's account is its client's child and nobody's parent, and the service finds what it keeps for it
pub record Holds {T : Type 0} (kept : T → ℕ → Share → Type 0) (session : Session T) (store : Store) (regions : Regions) : Type 0 where
  pub account : IsSessionAccount session.account.0 store regions
  pub child : IsChildIn store session.account.0 session.client.0
  pub leaf : IsLeafIn store session.account.0
  pub state : kept session.state session.account.0 (holding_at session.account.0 store regions)

-- an account is a session's
pub record IsSessions {T : Type 0} (sessions : Slab (Session T)) (account : ℕ) : Type 0 where
  pub id : ℕ
  pub session : Session T
  pub there : slab.get sessions id ≡ Some session
  pub is : session.account.0 ≡ account

-- a server works on this memory: each session holds, each has an account of its own, and each heap region of the map shows a
-- dataspace of a session
pub record IsServer {T : Type 0} (kept : T → ℕ → Share → Type 0) (sessions : Slab (Session T)) (store : Store) (regions : Regions) : Type 0 where
  pub maps : MapsMemory store regions
  pub each : (id : ℕ) (session : Session T) → slab.get sessions id ≡ Some session → Holds kept session store regions
  pub apart : (a b : ℕ) (s t : Session T) → slab.get sessions a ≡ Some s → slab.get sessions b ≡ Some t → s.account.0 ≡ t.account.0 → a ≡ b
  pub owned : (start : ℕ) (region : Region) → get regions.heap start ≡ Some region → IsSessions sessions (space_at store region.of).payer

-- an account is no session's
pub record IsNoSession {T : Type 0} (sessions : Slab (Session T)) (account : ℕ) : Type 0 where
  pub none : (id : ℕ) (session : Session T) → slab.get sessions id ≡ Some session → session.account.0 ≢ account

-- so many sessions of a client can be open in all, those that are open among them: the client's account is open and no
-- session's, and there are places for as many sessions and accounts
pub record Admits {T : Type 0} (kept : T → ℕ → Share → Type 0) (sessions : Slab (Session T)) (client most : ℕ) (store : Store) (regions : Regions) : Type 0 where
  pub server : IsServer kept sessions store regions
  pub is_open : IsOpenIn store client
  pub no_session : IsNoSession sessions client
  pub places : most ≤ sessions.capacity
  pub room : most ≤ room_in store + slab_len sessions

-- ---- what calls do

-- an account is opened for a session and charged for the session itself and for its object
pub record OpensChargedAccount (client ram caps account : ℕ) (taken : SlicedHeap) (old new : Store) (regions after : Regions) : Type 0 where
  pub fresh : get (accounts_in old) account ≡ None
  pub payer : payer_of taken ≡ account
  pub heap : IsSessionHeap taken new after
  pub alone : HasBlocksAlone (holding_of taken new after)
  pub leaf : IsLeafIn new account
  pub charge : (part account new).account ≡ Some (session_account ram caps)
  pub parted : part client new ≡ parted_part (part client old) ram caps
  pub parts : OtherPartsStay client account old new
  pub holdings : (other : ℕ) → other ≢ account → holding_at other new after ≡ holding_at other old regions
  pub root : root_in new ≡ root_in old
  pub parents : parents_in new ≡ insert (parents_in old) account client
  pub room : room_in new + 1 ≡ room_in old
  pub rest : after ≡ record regions { heap = after.heap; tags = after.tags }

-- a session at first
abbrev pub new_row : {V : Type 0} → ℕ → ℕ → ℕ → ℕ → V → Row V
new_row client key ram caps first =
    record { client = client; key = key; account = session_account ram caps; value = first; buffer = None }

-- a session without a buffer is opened under a free key, on a new account: its client gives up the limits, and every other
-- account's part is unchanged
pub record OpensSession {V : Type 0} (client ram caps id : ℕ) (first : V) (old new : Store) (rows after : NatMap (Row V)) : Type 0 where
  pub key : ℕ
  pub fresh : get (accounts_in old) key ≡ None
  pub free : get rows id ≡ None
  pub sessions : after ≡ insert rows id (new_row client key ram caps first)
  pub charge : (part key new).account ≡ Some (session_account ram caps)
  pub parted : part client new ≡ parted_part (part client old) ram caps
  pub others : (other : ℕ) → other ≢ client → other ≢ key → part other new ≡ part other old
  pub root : root_in new ≡ root_in old
  pub parents : parents_in new ≡ insert (parents_in old) key client
  pub room : room_in new + 1 ≡ room_in old

-- a request is answered on a session, whose buffer afterwards is as the effect states: only its account's part may change
pub record ServesSession {V : Type 0} (row : Row V) (id : ℕ) (effect : Effect) (served : Served V) (old new : Store) (rows after : NatMap (Row V)) : Type 0 where
  pub lent : Option ℕ
  pub effect_is : IsEffect effect row.buffer lent
  pub sessions : after ≡ insert rows id (record row { account = served.account; value = served.value; buffer = lent })
  pub bytes : bytes_lent new lent ≡ served.buffer
  pub others : (other : ℕ) → other ≢ row.key → part other new ≡ part other old
  pub root : root_in new ≡ root_in old
  pub parents : parents_in new ≡ parents_in old
  pub room : room_in new ≡ room_in old

-- a session is closed: its row is removed, its account closes, and its client's limits are raised by those of the account
pub record ClosesSession {V : Type 0} (id : ℕ) (old new : Store) (rows after : NatMap (Row V)) : Type 0 where
  pub row : Row V
  pub there : get rows id ≡ Some row
  pub closes : ClosesPart row.key row.client old new
  pub sessions : after ≡ remove rows id
