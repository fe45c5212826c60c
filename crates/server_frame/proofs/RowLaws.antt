-- Laws for callers: sessions that a client can still open, after each call of its server.
use Rattle.std.proofs.Common.{◌≡◌, ◌≢◌, ℕ, ◌+◌, ◌≤◌, [], get_or, inl, inr, Some, is_some, refl, sym, ap, subst, ◌∙◌, arith}
use Rattle.std.proofs.lemmas.Bool.{cases_eq}
use Rattle.std.proofs.lemmas.Option.{none-some, same_Some}
use Rattle.std.specs.Prelude.{Option, None, ⊤, Result, Ok, Err, OnOk, OnErr, IfSome}
use Rattle.std.specs.Option.{option_map}
use Rattle.std.specs.FinMap.{get, insert, remove, len}
use Rattle.slab.specs.Slab.{Slab, slab_len}
use Rattle.slab.specs.Slab as slab
use Rattle.own_model.specs.NatMap.{NatMap}
use Rattle.own_model.proofs.NatMapLemmas.{apart_from_free, before_remove, each_after_insert, some_of}
use Rattle.own_model.proofs.Totals.{len-insert_new, len-insert_at, len-remove_at}
use Rattle.trade_base.specs.declared.id.AccountId.{AccountId}
use Rattle.trade_base.specs.declared.refusal.Refusal.{Refusal}
use Rattle.own_model.specs.Donation.{raised}
use Rattle.quota_core.proofs.SlabMap.{get-map_of, get-map_of_at, len-map_of}
use Rattle.region_map.specs.Regions.{Regions}
use Rattle.dataspace_core.specs.Store.{Store, Part, part, accounts_in, room_in, IsOpenIn, ClosesPart, RaisesPart}
use Rattle.dataspace_core.specs.Share.{Share}
use Rattle.dataspace_core.proofs.PartLaws.{open_in_part, part_open}
use Rattle.server_frame.specs.Session.{Served}
use Rattle.server_frame.specs.Frame.{Row, AtRow, row_of, new_row, sessions_of, IsServer, IsNoSession, Admits, OpensSession, ServesSession, ClosesSession}
use Rattle.server_frame.specs.declared.effect.Effect.{Effect}
use Rattle.server_frame.specs.declared.server.Session.{Session}

-- a value that is read is one that was there
pub read_from : {T X : Type 0} (f : T → X) (o : Option T) (x : X) → option_map f o ≡ Some x → (t : T) × (o ≡ Some t) × (f t ≡ x)
read_from f None x is = cc
read_from f (Some t) x is = (t, refl, same_Some _ _ is)

-- it is there where one is read
mapped : {T X : Type 0} (f : T → X) (o : Option T) → is_some o ≡ is_some (option_map f o)
mapped f None = refl
mapped f (Some x) = refl

-- an open session and its row
module _ {T V : Type 0} (value : T → Share → V) (buffer : T → Option ℕ) (sessions : Slab (Session T)) (store : Store) (regions : Regions) (id : ℕ) where
  abbrev seen : Session T → Row V
  seen = row_of value buffer store regions

  -- as many keys have a row as a session
  pub open_row : is_some (slab.get sessions id) ≡ is_some (get (sessions_of value buffer sessions store regions) id)
  open_row = mapped seen (slab.get sessions id) ∙ ap is_some (sym (get-map_of seen sessions id))

  -- what is read of a session is its row
  pub row_is : (session : Session T) → slab.get sessions id ≡ Some session → AtRow (sessions_of value buffer sessions store regions) id (λ row. seen session ≡ row)
  row_is session is row there = same_Some _ _ (sym (get-map_of_at seen sessions id session is) ∙ there)

-- an account is no session's in these rows
abbrev pub IsNoRows : {V : Type 0} → NatMap (Row V) → ℕ → Type 0
IsNoRows {V} rows account = (id : ℕ) (row : Row V) → get rows id ≡ Some row → row.key ≢ account

module _ {T V : Type 0} (value : T → Share → V) (buffer : T → Option ℕ) (sessions : Slab (Session T)) (store : Store) (regions : Regions) (account : ℕ) where
  -- an account that is no session's is none in the rows
  pub no_rows : IsNoSession sessions account → IsNoRows (sessions_of value buffer sessions store regions) account
  no_rows no_session id row there e =
      let was = read_from (row_of value buffer store regions) (slab.get sessions id) row (sym (get-map_of (row_of value buffer store regions) sessions id) ∙ there) in
      no_session.none id was.0 was.1 (ap (λ (r : Row V). r.key) was.2 ∙ e)

  -- and the other way round
  pub no_session_by_rows : IsNoRows (sessions_of value buffer sessions store regions) account → IsNoSession sessions account
  no_session_by_rows none = record { none = λ id session there. none id (row_of value buffer store regions session) (get-map_of_at (row_of value buffer store regions) sessions id session there) }

-- an open session has a row
pub row_at : {T V : Type 0} (value : T → Share → V) (buffer : T → Option ℕ) (sessions : Slab (Session T)) (store : Store) (regions : Regions) (id : ℕ) → slab.ContainsKey sessions id →
    (row : Row V) × (get (sessions_of value buffer sessions store regions) id ≡ Some row)
row_at value buffer sessions store regions id present =
    let session = some_of (slab.get sessions id) present in
    (row_of value buffer store regions session.0, get-map_of_at (row_of value buffer store regions) sessions id session.0 session.1)

-- the row that is closed is the one that is there
pub closes_at : {V : Type 0} {id : ℕ} {old new : Store} {rows after : NatMap (Row V)} → ClosesSession id old new rows after → AtRow rows id (λ row. ClosesPart row.key row.client old new)
closes_at {V} {id} {old} {new} its row there = subst (λ (r : Row V). ClosesPart r.key r.client old new) (same_Some _ _ (sym its.there ∙ there)) its.closes

-- a session's account is open
pub account_open : {T : Type 0} (kept : T → ℕ → Share → Type 0) (sessions : Slab (Session T)) (store : Store) (regions : Regions) → IsServer kept sessions store regions → (id : ℕ) (account : AccountId) →
    slab.ContainsKey sessions id → IfSome (slab.get sessions id) (λ session. account ≡ session.account) → IsOpenIn store account.0
account_open kept sessions store regions server id account present is =
    let session = some_of (slab.get sessions id) present in
    let holds = server.each id session.0 session.1 in
    subst (IsOpenIn store) (ap (λ (a : AccountId). a.0) (sym (rw session.1 at is))) holds.account.opens

-- rows where one is written, or goes
module _ {V : Type 0} (rows : NatMap (Row V)) (account : ℕ) (none : IsNoRows rows account) where
  no_rows_insert : (id : ℕ) (row : Row V) → row.key ≢ account → IsNoRows (insert rows id row) account
  no_rows_insert id row apart = each_after_insert rows id row (λ q r. r.key ≢ account) none apart

  no_rows_remove : (id : ℕ) → IsNoRows (remove rows id) account
  no_rows_remove id q row there = none q row (before_remove rows id q row there)

module _ {T V : Type 0} (value : T → Share → V) (buffer : T → Option ℕ) (sessions now : Slab (Session T)) (old new : Store) (regions after : Regions) where
  -- the rows before and after
  abbrev rows : NatMap (Row V)
  rows = sessions_of value buffer sessions old regions

  abbrev rows' : NatMap (Row V)
  rows' = sessions_of value buffer now new after

  -- as many sessions are open as there are rows
  many_before : len rows ≡ slab_len sessions
  many_before = len-map_of (row_of value buffer old regions) sessions

  many_now : len rows' ≡ slab_len now
  many_now = len-map_of (row_of value buffer new after) now

  -- one more is open after an open
  pub open_opened : {client ram caps id : ℕ} {first : V} → OpensSession client ram caps id first old new rows rows' → slab_len now ≡ slab_len sessions + 1
  open_opened {client} {ram} {caps} {id} {first} opens =
      omega (arith, many_now, many_before, ap len opens.sessions, len-insert_new rows id (new_row client opens.key ram caps first) opens.free)

  -- as many where a row is written over another
  open_written : (id : ℕ) (row next : Row V) → get rows id ≡ Some row → rows' ≡ insert rows id next → slab_len now ≡ slab_len sessions
  open_written id row next there is = omega (arith, many_now, many_before, ap len is, len-insert_at rows id next row there)

  -- as after a request
  pub open_served : (id : ℕ) (row : Row V) → get rows id ≡ Some row → {effect : Effect} {served : Served V} → ServesSession row id effect served old new rows rows' → slab_len now ≡ slab_len sessions
  open_served id row there {effect} {served} serves = open_written id row (record row { account = served.account; value = served.value; buffer = serves.lent }) there serves.sessions

  -- and one less after a close
  pub open_closed : (id : ℕ) (row : Row V) → get rows id ≡ Some row → rows' ≡ remove rows id → slab_len now + 1 ≡ slab_len sessions
  open_closed id row there is = omega (arith, many_now, many_before, ap len is, len-remove_at rows id row there)

  module _ {kept : T → ℕ → Share → Type 0} {client most : ℕ} (admits : Admits kept sessions client most old regions) (server : IsServer kept now new after) (capacity : now.capacity ≡ sessions.capacity) where
    -- a client whose account is still open, and no row's, can open as many sessions where as many places are free
    admits_by : IsOpenIn new client → IsNoRows rows' client → room_in new + slab_len now ≡ room_in old + slab_len sessions → Admits kept now client most new after
    admits_by opens none places = record {
      server = server;
      is_open = opens;
      no_session = no_session_by_rows value buffer now new after client none;
      places = omega (arith, admits.places, capacity);
      room = omega (arith, admits.room, places);
    }

    -- none of the rows before is on the client's account
    none_before : IsNoRows rows client
    none_before = no_rows value buffer sessions old regions client admits.no_session

    -- a session of the client is opened
    pub admits_opened : {ram caps id : ℕ} {first : V} → OpensSession client ram caps id first old new rows rows' → Admits kept now client most new after
    admits_opened {ram} {caps} {id} {first} opens =
        let apart = apart_from_free (accounts_in old) opens.key client opens.fresh admits.is_open in
        admits_by (open_in_part client new (ap (λ (p : Part). is_some p.account) opens.parted))
        (subst (λ r. IsNoRows r client) (sym opens.sessions) (no_rows_insert rows client none_before id (new_row client opens.key ram caps first) (λ e. apart (sym e))))
        (omega (arith, opens.room, open_opened opens))

    module _ (id : ℕ) (row : Row V) (there : get rows id ≡ Some row) where
      -- the client's account isn't the session's
      apart : client ≢ row.key
      apart e = none_before id row there (sym e)

      -- where its part stays, it stays open
      open_stays : part client new ≡ part client old → IsOpenIn new client
      open_stays same = open_in_part client new (ap (λ (p : Part). is_some p.account) same ∙ part_open client old admits.is_open)

      -- another row is written under the session's key, on the same account
      admits_written : (next : Row V) → next.key ≡ row.key → rows' ≡ insert rows id next → IsOpenIn new client → room_in new ≡ room_in old → Admits kept now client most new after
      admits_written next same is opens room =
          admits_by opens
          (subst (λ r. IsNoRows r client) (sym is) (no_rows_insert rows client none_before id next (λ e. none_before id row there (sym same ∙ e))))
          (omega (arith, room, open_written id row next there is))

      -- a request of a session is answered
      pub admits_served : {effect : Effect} {served : Served V} → ServesSession row id effect served old new rows rows' → Admits kept now client most new after
      admits_served {effect} {served} serves =
          admits_written (record row { account = served.account; value = served.value; buffer = serves.lent }) refl serves.sessions (open_stays (serves.others client apart)) serves.room

      -- limits come to a session, of the client or of another
      pub admits_raised : {ram caps : ℕ} → RaisesPart row.client row.key ram caps old new → rows' ≡ insert rows id (record row { account = raised row.account ram caps }) → Admits kept now client most new after
      admits_raised {ram} {caps} raises is =
          admits_written (record row { account = raised row.account ram caps }) refl is
          (elim (cases_eq client row.client) [
            | inl own ↦ open_in_part client new (ap (λ k. is_some (part k new).account) own ∙ ap (λ (p : Part). is_some p.account) raises.parted_one)
            | inr other ↦ open_stays (raises.others client other apart)
          ]) raises.room

      -- or are refused, and then nothing has changed
      pub admits_upgraded : (ram caps : ℕ) (r : Result ⊤ Refusal) → now ≡ sessions → OnOk r (RaisesPart row.client row.key ram caps old new) → OnOk r (rows' ≡ insert rows id (record row { account = raised row.account ram caps })) →
          OnErr r (new ≡ old) → Admits kept now client most new after
      admits_upgraded ram caps (Ok done) same raises is stays = admits_raised {ram = ram} {caps = caps} raises is
      admits_upgraded ram caps (Err e) same raises is stays = record {
        server = server;
        is_open = subst (λ s. IsOpenIn s client) (sym stays) admits.is_open;
        no_session = subst (λ s. IsNoSession s client) (sym same) admits.no_session;
        places = omega (arith, admits.places, capacity);
        room = omega (arith, admits.room, ap room_in stays, ap slab_len same);
      }

      -- a session is closed, of the client or of another
      pub admits_closed : ClosesPart row.key row.client old new → rows' ≡ remove rows id → Admits kept now client most new after
      admits_closed closes is =
          admits_by (elim (cases_eq client row.client) [
            | inl own ↦ open_in_part client new (ap (λ k. is_some (part k new).account) own ∙ ap (λ (p : Part). is_some p.account) closes.raised_one)
            | inr other ↦ open_stays (closes.others client apart other)
          ]) (subst (λ r. IsNoRows r client) (sym is) (no_rows_remove rows client none_before id))
          (omega (arith, closes.room, open_closed id row there is))

-- a server that has just booted admits as many sessions as it has places for, of a client that is open
pub admits_at_first : {T : Type 0} (kept : T → ℕ → Share → Type 0) (sessions : Slab (Session T)) (client most : ℕ) (store : Store) (regions : Regions) → sessions.slots ≡ [] → most ≤ sessions.capacity →
    IsServer kept sessions store regions → IsOpenIn store client → most ≤ room_in store → Admits kept sessions client most store regions
admits_at_first kept sessions client most store regions none places server opens room = record {
  server = server;
  is_open = opens;
  no_session = record { none = λ id s there. absurd (none-some s (sym (ap (λ slots. get_or slots id None) none) ∙ there)) };
  places = places;
  room = omega (arith, room);
}
