-- A server of any service, as the model sees it.
use Rattle.std.specs.Prelude.{◌≡◌, ℕ, ◌+◌, ◌*◌, ◌<◌, ◌≤◌, List, [], Option, None}
use Rattle.std.specs.FinMap.{empty}
use Rattle.slab.specs.Slab.{Slab, ContainsKey, slab_len}
use Rattle.own_model.specs.NatMap.{NatMap}
use Rattle.own_model.specs.ObjectKinds.{ObjectKind}
use Rattle.own_model.specs.Offer.{Offer}
use Rattle.own_model.specs.Offer.Offer.{OffersLog, OffersFiles, OffersObjects}
use Rattle.own_model.specs.Session.{Labelled, donation_refusal}
use Rattle.server_frame.specs.Memory.{Regions, Share, Store, account_in, room_in, ram_limits_in, caps_limits_in, IsOpenIn}
use Rattle.server_frame.specs.Frame.{Row, sessions_of, IsServer, IsNoSession}
use Rattle.server_frame.specs.SessionBuffer.{AllLendAside}
use Rattle.server_frame.proofs.LentLaws.{lends_nothing}
use Rattle.server_frame.specs.declared.server.Session.{Session}
use Rattle.log_service.specs.Session.{LabelledLine, as_kept, IsSession as IsLogSession}
use Rattle.file_service.specs.SeparateBuffer.{lends_aside}
use Rattle.file_service.specs.SeparateBuffer.{buffer_key}
use Rattle.file_service.specs.Session.{value_of, IsSession as IsFileSession}
use Rattle.file_service.specs.declared.session.FileSession.{FileSession}
use Rattle.object_service.specs.SeparateBuffer as apart
use Rattle.object_service.specs.Session as held
use Rattle.object_service.specs.declared.session.ObjectSession.{ObjectSession}
use Rattle.server_kinds.specs.declared.any_server.AnyServer.{AnyServer}
use Rattle.server_kinds.specs.declared.any_server.AnyServer.TheVariants.{Log, Files, Declared}

-- what the server offers to each of its sessions
abbrev pub offer_of : AnyServer → Offer
offer_of (Log server) = OffersLog
offer_of (Files server) = OffersFiles
offer_of (Declared server) = OffersObjects server.service

-- what a server stores: its sessions and its map. It also has what the service stores for a session: its value to its
-- client, its buffer, what is true of it, and that neither depends on the buffer's bytes
pub record Table : Type 1 where
  pub State : Type 0
  pub value : State → Share → Labelled
  pub buffer : State → Option ℕ
  pub kept : State → ℕ → Share → Type 0
  pub aside : AllLendAside kept value buffer
  pub sessions : Slab (Session State)
  pub map : Regions

-- all memory that the log service stores for a session is blocks of its sliced heap, and the session has no buffer
abbrev pub log_table : Slab (Session LabelledLine) → Regions → Table
log_table sessions map = record {
  State = LabelledLine;
  value = λ line share. as_kept line;
  buffer = λ line. None;
  kept = IsLogSession;
  aside = lends_nothing;
  sessions = sessions;
  map = map;
}

-- the file service stores blocks and nodes, which determine a session's files, and a session may have a buffer
abbrev pub file_table : Slab (Session FileSession) → Regions → Table
file_table sessions map = record {
  State = FileSession;
  value = value_of;
  buffer = λ session. buffer_key session.buffer;
  kept = IsFileSession;
  aside = lends_aside;
  sessions = sessions;
  map = map;
}

-- a declared server stores the same, with the objects of its kinds in place of files
abbrev pub object_table : List ObjectKind → Slab (Session ObjectSession) → Regions → Table
object_table kinds sessions map = record {
  State = ObjectSession;
  value = held.value_of kinds;
  buffer = λ session. buffer_key session.buffer;
  kept = held.IsSession;
  aside = apart.lends_aside kinds;
  sessions = sessions;
  map = map;
}

abbrev pub table_of : AnyServer → Table
table_of (Log server) = log_table server.sessions server.map
table_of (Files server) = file_table server.sessions server.map
table_of (Declared server) = object_table server.service server.sessions server.map

-- the sessions that it serves, by their keys
abbrev pub rows_by : Store → Table → NatMap (Row Labelled)
rows_by store table = sessions_of table.value table.buffer table.sessions store table.map

abbrev pub rows_of : Store → AnyServer → NatMap (Row Labelled)
rows_of store host = rows_by store (table_of host)

-- how many sessions find a place
abbrev pub capacity_of : AnyServer → ℕ
capacity_of host = (table_of host).sessions.capacity

-- a session is open under a key
abbrev pub HasSession : AnyServer → ℕ → Type 0
HasSession host id = ContainsKey (table_of host).sessions id

-- there is a place for one more
abbrev pub HasPlace : AnyServer → Type 0
HasPlace host = slab_len (table_of host).sessions < capacity_of host

-- it works on this memory
abbrev pub Works : Store → AnyServer → Type 0
Works store host = IsServer (table_of host).kept (table_of host).sessions store (table_of host).map

-- it has no session, an empty map with the pages of the machine, and a place for each two capabilities of it
pub record HasNoSessions {T : Type 0} (store : Store) (sessions : Slab (Session T)) (regions : Regions) : Type 0 where
  pub none : sessions.slots ≡ []
  pub places : caps_limits_in store ≤ sessions.capacity * 2 + 1
  pub no_heap : regions.heap ≡ empty
  pub heap_most : regions.heap_most ≡ regions.pages
  pub pages : regions.pages * 4096 ≡ ram_limits_in store

abbrev pub IsNew : Store → AnyServer → Type 0
IsNew store host = HasNoSessions store (table_of host).sessions (table_of host).map

-- ---- calls

-- it works, and serves a session
pub record Serves (store : Store) (host : AnyServer) (id : ℕ) : Type 0 where
  pub works : Works store host
  pub session : HasSession host id

-- sessions can be joined by one of a client's account with this donation: their server works, and the client is open and no
-- session. If it covers the donation, there is a place for the session and for its account
pub record CanOpen {T : Type 0} (kept : T → ℕ → Share → Type 0) (sessions : Slab (Session T)) (store : Store) (map : Regions) (client ram caps : ℕ) : Type 0 where
  pub works : IsServer kept sessions store map
  pub is_open : IsOpenIn store client
  pub no_session : IsNoSession sessions client
  pub place : donation_refusal (account_in store client) ram caps ≡ None → slab_len sessions < sessions.capacity
  pub room : donation_refusal (account_in store client) ram caps ≡ None → 0 < room_in store

abbrev pub Admits : Store → AnyServer → ℕ → ℕ → ℕ → Type 0
Admits store host client ram caps = let table = table_of host in CanOpen table.kept table.sessions store table.map client ram caps

-- after a call of one of its sessions the server works on the memory, and is unchanged except for its sessions; so are all
-- limits of RAM together
pub record StaysServer (old : Store) (before : AnyServer) (new : Store) (after : AnyServer) : Type 0 where
  pub service : offer_of after ≡ offer_of before
  pub capacity : capacity_of after ≡ capacity_of before
  pub works : Works new after
  pub machine : ram_limits_in new ≡ ram_limits_in old
