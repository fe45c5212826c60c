-- Laws for callers: what is so of a server, whichever its service is.
use Rattle.std.proofs.Common.{◌≡◌, ◌≢◌, ℕ, ◌+◌, ◌*◌, ◌≤◌, Bool, Some, false, refl, sym, ap, subst, ◌∙◌, arith}
use Rattle.std.specs.Prelude.{List, [], IsSome}
use Rattle.std.specs.FinMap.{get, empty}
use Rattle.slab.specs.Slab.{Slab, ContainsKey}
use Rattle.slab.specs.Slab as slab
use Rattle.own_model.specs.Account.{Fits}
use Rattle.own_model.specs.Services as services
use Rattle.own_model.specs.Session.{Labelled}
use Rattle.own_model.proofs.NatMapLemmas.{same}
use Rattle.quota_core.specs.SlabMap.{map_of}
use Rattle.quota_core.proofs.SlabMap.{get-map_of, get-map_of_at, ContainsKey-map_of, map_of-empty}
use Rattle.server_frame.specs.Memory.{Regions, fresh_regions, HasRoom, Store, part, space_at, account_in, ram_limits_in, caps_limits_in, IsOpenIn, IsChildIn}
use Rattle.server_frame.specs.Frame.{Row, row_of, IsNoSession}
use Rattle.server_frame.specs.declared.server.Session.{Session}
use Rattle.server_frame.proofs.FrameLaws.{server_at_first, server_stays}
use Rattle.server_frame.proofs.FrameLemmas.{Stays, row_stays, read_alike}
use Rattle.server_frame.specs.Theorems.{WritesLent}
use Rattle.server_frame.proofs.LentLaws.{lent_are_paid, writes_leave_sessions}
use Rattle.server_frame.proofs.PlaceLaws.{table_has_place}
use Rattle.server_frame.proofs.RowLaws.{IsNoRows, read_from, no_session_by_rows}
use Rattle.server_kinds.specs.Host.{Table, offer_of, table_of, rows_by, rows_of, capacity_of, HasSession, HasPlace, Works, HasNoSessions, IsNew}
use Rattle.server_kinds.specs.declared.any_server.AnyServer.{AnyServer}
use Rattle.server_kinds.specs.declared.any_server.AnyServer.TheVariants.{Log, Files, Declared}

-- ---- rows

module _ (table : Table) (store : Store) (id : ℕ) where
  -- a session as its client sees it
  abbrev seen : Session table.State → Row Labelled
  seen = row_of table.value table.buffer store table.map

  -- a row that is there is an open session's
  pub record IsRow (row : Row Labelled) : Type 0 where
    pub session : Session table.State
    pub there : slab.get table.sessions id ≡ Some session
    pub is : seen session ≡ row

  pub row_is : (row : Row Labelled) → get (rows_by store table) id ≡ Some row → IsRow row
  row_is row there =
      let was = read_from seen (slab.get table.sessions id) row (sym (get-map_of seen table.sessions id) ∙ there) in
      record { session = was.0; there = was.1; is = was.2 }

  -- the row of an open session
  pub row_there : (session : Session table.State) → slab.get table.sessions id ≡ Some session → get (rows_by store table) id ≡ Some (seen session)
  row_there session is = get-map_of_at seen table.sessions id session is

-- a session is of what its server offers
pub row_offer : (store : Store) (host : AnyServer) (id : ℕ) (row : Row Labelled) → get (rows_of store host) id ≡ Some row → services.offer_of row.value.state ≡ offer_of host
row_offer store (Log server) id row there = sym (ap (λ (r : Row Labelled). services.offer_of r.value.state) (row_is (table_of (Log server)) store id row there).is)
row_offer store (Files server) id row there = sym (ap (λ (r : Row Labelled). services.offer_of r.value.state) (row_is (table_of (Files server)) store id row there).is)
row_offer store (Declared server) id row there = sym (ap (λ (r : Row Labelled). services.offer_of r.value.state) (row_is (table_of (Declared server)) store id row there).is)

-- a session with a row is open
pub has_session : (store : Store) (host : AnyServer) (id : ℕ) → IsSome (get (rows_of store host) id) → HasSession host id
has_session store host id there =
    let table = table_of host in ContainsKey-map_of (row_of table.value table.buffer store table.map) table.sessions id there

-- an account of no row is no session's
pub is_none : (store : Store) (host : AnyServer) (client : ℕ) → IsNoRows (rows_of store host) client → IsNoSession (table_of host).sessions client
is_none store host client none = let table = table_of host in no_session_by_rows table.value table.buffer table.sessions store table.map client none

-- a row's account is its client's child and not its client's, it is open, and it is what the row tells
pub record IsPaidRow (store : Store) (row : Row Labelled) : Type 0 where
  pub child : IsChildIn store row.key row.client
  pub apart : row.client ≢ row.key
  pub opens : IsOpenIn store row.key
  pub account : account_in store row.key ≡ row.account

-- so each row is
pub row_paid : (store : Store) (host : AnyServer) → Works store host → (id : ℕ) (row : Row Labelled) → get (rows_of store host) id ≡ Some row → IsPaidRow store row
row_paid store host works id row there =
    let its = row_is (table_of host) store id row there in
    let holds = works.each id its.session its.there in
    subst (IsPaidRow store) its.is (record {
      child = holds.child;
      apart = λ e. holds.leaf its.session.account.0 (holds.child ∙ ap Some e);
      opens = holds.account.opens;
      account = refl;
    })

-- ---- what sessions lend

-- it is a dataspace that the session's account pays for
pub lent_paid : (store : Store) (host : AnyServer) → Works store host → (id key : ℕ) (row : Row Labelled) → get (rows_of store host) id ≡ Some row → row.buffer ≡ Some key →
    get (part row.key store).spaces key ≡ Some (space_at store key).bytes
lent_paid store host works id key row there lends =
    let table = table_of host in lent_are_paid table.kept table.value table.buffer table.aside table.sessions store table.map id key works row there lends

-- where it is written, the server works, and its rows stay
pub written : (store store' : Store) (host : AnyServer) (id : ℕ) (row : Row Labelled) → get (rows_of store host) id ≡ Some row → (ds offset : ℕ) (bytes : List ℕ) → Works store host → WritesLent row ds offset bytes store store' →
    Works store' host × (rows_of store' host ≡ rows_of store host)
written store store' host id row there ds offset bytes works writes =
    let table = table_of host in writes_leave_sessions table.kept table.value table.buffer table.aside table.sessions store store' table.map id ds offset bytes works row there writes

-- ---- places

-- a table with a place for each two capabilities of the machine has one more for a client that has no session and can pay for it
pub host_has_place : (heads : ℕ → Bool) (store : Store) (host : AnyServer) → Works store host → ((id : ℕ) (row : Row Labelled) → get (rows_of store host) id ≡ Some row → heads row.client ≡ false) → HasRoom heads store →
    caps_limits_in store ≤ capacity_of host * 2 + 1 → (client ram caps : ℕ) → IsNoRows (rows_of store host) client → Fits (account_in store client) ram caps → 2 ≤ caps → HasPlace host
host_has_place heads store host works clients room places client ram caps none fits least =
    let table = table_of host in
    table_has_place table.kept heads table.sessions store table.map client ram caps table.sessions.capacity works
    (λ id session is. clients id _ (row_there table store id session is)) room (is_none store host client none) fits least places

-- ---- beside calls that leave what its sessions see

-- a slab is read alike where each of its values is
map_of_alike : {T X : Type 0} (f g : T → X) (s : Slab T) → ((q : ℕ) (x : T) → slab.get s q ≡ Some x → g x ≡ f x) → map_of g s ≡ map_of f s
map_of_alike f g s alike = same _ _ (λ q. get-map_of g s q ∙ read_alike f g (slab.get s q) (alike q) ∙ sym (get-map_of f s q))

module _ (store store' : Store) (host : AnyServer) (stays : (id : ℕ) (row : Row Labelled) → get (rows_of store host) id ≡ Some row → (regions : Regions) → Stays row.key store store' regions regions) where
  session_stays : (id : ℕ) (session : Session (table_of host).State) → slab.get (table_of host).sessions id ≡ Some session → Stays session.account.0 store store' (table_of host).map (table_of host).map
  session_stays id session there = stays id _ (row_there (table_of host) store id session there) (table_of host).map

  -- it has the rows that it had
  pub rows_stay : rows_of store' host ≡ rows_of store host
  rows_stay =
      let table = table_of host in
      map_of_alike (row_of table.value table.buffer store table.map) (row_of table.value table.buffer store' table.map) table.sessions
      (λ id session there. row_stays store store' table.map table.map session table.value table.buffer (session_stays id session there))

  -- and works
  pub works_still : ram_limits_in store' ≡ ram_limits_in store → Works store host → Works store' host
  works_still limits works = let table = table_of host in server_stays table.kept table.sessions store store' table.map works limits session_stays

-- ---- a new server

-- one that has booted has no sessions, and has room for as many as the machine's capabilities pay for
pub new_host : {T : Type 0} (store : Store) (pages most : ℕ) (sessions : Slab (Session T)) (regions : Regions) → sessions.slots ≡ [] → most ≤ sessions.capacity → regions ≡ fresh_regions 0 pages pages →
    ram_limits_in store ≡ pages * 4096 → caps_limits_in store ≤ most * 2 + 1 → HasNoSessions store sessions regions
new_host store pages most sessions regions none places booted machine half = record {
  none = none;
  places = omega (arith, half, places);
  no_heap = ap (λ (r : Regions). r.heap) booted;
  heap_most = ap (λ (r : Regions). r.heap_most) booted ∙ sym (ap (λ (r : Regions). r.pages) booted);
  pages = ap (λ (r : Regions). r.pages * 4096) booted ∙ sym machine;
}

module _ (store : Store) (host : AnyServer) (new : IsNew store host) where
  -- it works
  pub new_works : Works store host
  new_works = let table = table_of host in server_at_first table.kept table.sessions store table.map new.none new.no_heap new.pages new.heap_most

  -- and has no rows
  pub new_rows : rows_of store host ≡ empty
  new_rows = let table = table_of host in map_of-empty (row_of table.value table.buffer store table.map) table.sessions new.none

-- it is still new where the limits are the same
pub still_new : {T : Type 0} (store store' : Store) (sessions : Slab (Session T)) (regions : Regions) → ram_limits_in store' ≡ ram_limits_in store → caps_limits_in store' ≡ caps_limits_in store →
    HasNoSessions store sessions regions → HasNoSessions store' sessions regions
still_new store store' sessions regions ram caps new =
    record { none = new.none; places = omega (arith, new.places, caps); no_heap = new.no_heap; heap_most = new.heap_most; pages = new.pages ∙ sym ram }
