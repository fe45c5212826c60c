-- Statements of the theorems for callers: the table of a server has a place for each session that can be paid for. An open
-- leaves room for accounts, and a client's writes to a buffer leave all else as it was.
use Rattle.std.specs.Prelude.{◌≡◌, ℕ, ◌+◌, ◌*◌, ◌<◌, ◌≤◌, Bool, false, List, length, Option, Some}
use Rattle.std.specs.FinMap.{get}
use Rattle.slab.specs.Slab.{Slab, slab_len}
use Rattle.slab.specs.Slab as slab
use Rattle.own_model.specs.Account.{Fits}
use Rattle.own_model.specs.NatMap.{NatMap}
use Rattle.own_model.specs.Session.{session_account}
use Rattle.region_map.specs.Regions.{Regions}
use Rattle.dataspace_core.specs.Store.{Store, part, bytes_of, space_at, part_with_bytes, account_in, ram_limits_in, caps_limits_in, PartBecomes}
use Rattle.dataspace_core.specs.Room.{HasRoom, OpensBelow}
use Rattle.dataspace_core.specs.Share.{Share}
use Rattle.server_frame.specs.Frame.{Row, sessions_of, AtSession, IsServer, IsNoSession, OpensSession}
use Rattle.server_frame.specs.declared.server.Session.{Session}

-- no client is an init's account: an account under which components are opened has no sessions of its own
abbrev pub HasClients : {T : Type 0} → (ℕ → Bool) → Slab (Session T) → Type 0
HasClients {T} heads sessions = (id : ℕ) (session : Session T) → slab.get sessions id ≡ Some session → heads session.client.0 ≡ false

-- a table with a place for each two capabilities of the machine has one more for a client that covers two
abbrev pub TableHasPlace : {T : Type 0} → (T → ℕ → Share → Type 0) → Type 0
TableHasPlace {T} kept =
    (heads : ℕ → Bool) (sessions : Slab (Session T)) (store : Store) (regions : Regions) (client ram caps places : ℕ) →
    IsServer kept sessions store regions → HasClients heads sessions → HasRoom heads store → IsNoSession sessions client →
    Fits (account_in store client) ram caps → 2 ≤ caps → caps_limits_in store ≤ places * 2 + 1 → slab_len sessions < places

-- an open of a session opens an account below its client's
abbrev pub OpensAnAccount : Type 0 → Type 0
OpensAnAccount V =
    (client ram caps id : ℕ) (first : V) (old new : Store) (rows after : NatMap (Row V)) →
    (opens : OpensSession client ram caps id first old new rows after) → OpensBelow client opens.key ram caps (session_account ram caps) old new

-- ---- buffers of sessions

-- the buffer of a session is a dataspace of its account's part
abbrev pub LentArePaid : {T V : Type 0} → (T → ℕ → Share → Type 0) → (T → Share → V) → (T → Option ℕ) → Type 0
LentArePaid {T} {V} kept value buffer =
    (sessions : Slab (Session T)) (store : Store) (regions : Regions) (id ds : ℕ) →
    IsServer kept sessions store regions → AtSession value buffer sessions store regions id (λ (row : Row V).
    row.buffer ≡ Some ds → get (part row.key store).spaces ds ≡ Some (space_at store ds).bytes)

-- bytes are written at an offset of the buffer of a session, within it: the part of the session's account has them, and
-- every other part is unchanged
pub record WritesLent {V : Type 0} (row : Row V) (ds offset : ℕ) (bytes : List ℕ) (old new : Store) : Type 0 where
  pub lends : row.buffer ≡ Some ds
  pub within : offset + length bytes ≤ length (bytes_of (part row.key old) ds)
  pub becomes : PartBecomes row.key (part_with_bytes (part row.key old) ds offset bytes) old new
  pub machine : ram_limits_in new ≡ ram_limits_in old

-- that leaves the server and all its sessions as they were
abbrev pub WritesLeaveSessions : {T V : Type 0} → (T → ℕ → Share → Type 0) → (T → Share → V) → (T → Option ℕ) → Type 0
WritesLeaveSessions {T} {V} kept value buffer =
    (sessions : Slab (Session T)) (old new : Store) (regions : Regions) (id ds offset : ℕ) (bytes : List ℕ) →
    IsServer kept sessions old regions → AtSession value buffer sessions old regions id (λ (row : Row V).
    WritesLent row ds offset bytes old new →
    IsServer kept sessions new regions
    × (sessions_of value buffer sessions new regions ≡ sessions_of value buffer sessions old regions))
