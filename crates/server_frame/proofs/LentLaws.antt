-- Laws for callers: what sessions lend is paid by their accounts, and what is written there leaves the server.
use Rattle.std.proofs.Common.{◌≡◌, ◌≢◌, ℕ, ◌+◌, ◌≤◌, List, [], length, Some, is_some, unwrap_or, refl, sym, ap, subst, ◌∙◌, inl, inr}
use Rattle.std.proofs.lemmas.Bool.{cases_eq}
use Rattle.std.proofs.lemmas.Option.{none-some, same_Some}
use Rattle.std.specs.Prelude.{Option, None}
use Rattle.std.specs.Option.{option_map}
use Rattle.std.specs.FinMap.{get, len}
use Rattle.slab.specs.Slab.{Slab}
use Rattle.slab.specs.Slab as slab
use Rattle.trade_base.specs.Bytes.{with_bytes}
use Rattle.trade_base.proofs.BytesLemmas.{length-with_bytes}
use Rattle.own_model.specs.Account.{Account}
use Rattle.own_model.specs.NatMap.{NatMap}
use Rattle.own_model.proofs.NatMapLemmas.{same, some_of}
use Rattle.own_model.proofs.Totals.{len-insert_at}
use Rattle.quota_core.proofs.SlabMap.{get-map_of}
use Rattle.region_map.specs.Regions.{Regions}
use Rattle.dataspace_core.specs.Store.{Store, Part, part, account_of, account_in, bytes_of, space_at, part_with_bytes, PartBecomes}
use Rattle.dataspace_core.specs.Share.{Share, share_in}
use Rattle.dataspace_core.proofs.PartLaws.{account_of-part, open_in_part, part_open, paid_in_part}
use Rattle.dataspace_core.proofs.PokedLaws.{poked_length}
use Rattle.dataspace_core.proofs.ShareLaws.{some_alike, share_alike}
use Rattle.dataspace_core.proofs.WindowLaws.{own_account}
use Rattle.sliced_heap.specs.Theorems.{KeepsHeapWindow}
use Rattle.sliced_heap.specs.Heap.{MapsMemory}
use Rattle.sliced_heap.proofs.HeapLaws.{map_stays_for_payer}
use Rattle.server_frame.specs.SessionBuffer.{AllLendAside, LendsAside, share_with}
use Rattle.server_frame.specs.Session.{IsSessionAccount, holding, holding_at}
use Rattle.server_frame.specs.Frame.{Row, row_of, sessions_of, Holds, IsServer}
use Rattle.server_frame.specs.Theorems.{LentArePaid, WritesLent, WritesLeaveSessions}
use Rattle.server_frame.specs.declared.server.Session.{Session}
use Rattle.server_frame.proofs.FrameLaws.{stays_of_others}
use Rattle.server_frame.proofs.FrameLemmas.{Stays, read_alike, row_stays, server_with, OthersStay, other_account}
use Rattle.server_frame.proofs.RowLaws.{read_from}

-- a service that lends nothing
pub lends_nothing : {T V : Type 0} {kept : T → ℕ → Share → Type 0} {value : T → Share → V} → AllLendAside kept value (λ state. None)
lends_nothing state account share ds is_kept lends = absurd (none-some ds lends)

module _ {T V : Type 0} (kept : T → ℕ → Share → Type 0) (value : T → Share → V) (buffer : T → Option ℕ) (aside : AllLendAside kept value buffer) (sessions : Slab (Session T)) (store : Store) (regions : Regions) (server : IsServer kept sessions store regions)
    (id : ℕ) (session : Session T) (there : slab.get sessions id ≡ Some session) (ds : ℕ) (lends : buffer session.state ≡ Some ds) where
  holds : Holds kept session store regions
  holds = server.each id session there

  -- what it lends stands aside
  stands_aside : LendsAside kept value session.state session.account.0 (holding_at session.account.0 store regions) ds
  stands_aside = aside session.state session.account.0 (holding_at session.account.0 store regions) ds holds.state lends

  -- and its account's part has it
  lent_there : (bytes : List ℕ) × (get (part session.account.0 store).spaces ds ≡ Some bytes)
  unfolding share_in
  lent_there = some_of (get (part session.account.0 store).spaces ds) stands_aside.paid

  lent_paid : get (part session.account.0 store).spaces ds ≡ Some (space_at store ds).bytes
  lent_paid = lent_there.1 ∙ ap Some (sym (paid_in_part session.account.0 ds lent_there.0 store lent_there.1).bytes_are)

pub lent_are_paid : {T V : Type 0} (kept : T → ℕ → Share → Type 0) (value : T → Share → V) (buffer : T → Option ℕ) → AllLendAside kept value buffer → LentArePaid kept value buffer
lent_are_paid {T} {V} kept value buffer aside sessions store regions id ds server row is lends =
    let its = read_from (row_of value buffer store regions) (slab.get sessions id) row (sym (get-map_of (row_of value buffer store regions) sessions id) ∙ is) in
    subst (λ (r : Row V). r.buffer ≡ Some ds → get (part r.key store).spaces ds ≡ Some (space_at store ds).bytes) its.2
    (λ lent. lent_paid kept value buffer aside sessions store regions server id its.0 its.1 ds lent) lends

-- ---- a write

as_it_is : {regions : Regions} → KeepsHeapWindow regions regions
as_it_is = record { heap = refl; tags = refl; most = refl; pages = refl }

module _ {T V : Type 0} (kept : T → ℕ → Share → Type 0) (value : T → Share → V) (buffer : T → Option ℕ) (aside : AllLendAside kept value buffer) (sessions : Slab (Session T)) (old new : Store) (regions : Regions) (server : IsServer kept sessions old regions)
    (id : ℕ) (session : Session T) (there : slab.get sessions id ≡ Some session) (ds offset : ℕ) (bytes : List ℕ) (writes : WritesLent (row_of value buffer old regions session) ds offset bytes old new) where
  before : Holds kept session old regions
  before = server.each id session there

  -- the session's account
  abbrev payer : ℕ
  payer = session.account.0

  beside : LendsAside kept value session.state payer (holding_at payer old regions) ds
  beside = stands_aside kept value buffer aside sessions old regions server id session there ds writes.lends

  abbrev written : Part
  written = part_with_bytes (part payer old) ds offset bytes

  abbrev now : List ℕ
  now = with_bytes (bytes_of (part payer old) ds) offset bytes

  becomes : PartBecomes payer written old new
  becomes = writes.becomes

  within : offset + length bytes ≤ length (bytes_of (part payer old) ds)
  within = writes.within

  was : get (part payer old).spaces ds ≡ Some (bytes_of (part payer old) ds)
  unfolding share_in
  was =
      let has = some_of (get (part payer old).spaces ds) beside.paid in
      has.1 ∙ ap Some (sym (ap (λ (o : Option (List ℕ)). unwrap_or o []) has.1))

  long : length now ≡ length (bytes_of (part payer old) ds)
  long = length-with_bytes (bytes_of (part payer old) ds) offset bytes within

  lengths : (q : ℕ) → option_map length (get written.spaces q) ≡ option_map length (get (part payer old).spaces q)
  lengths = poked_length (part payer old) ds offset bytes (bytes_of (part payer old) ds) was within

  -- the map is one of the memory still
  maps : MapsMemory new regions
  maps =
      map_stays_for_payer payer written (account_in old payer) old new regions regions server.maps as_it_is becomes
      before.account.opens (own_account payer old before.account.opens) refl (λ s r h. lengths r.of)

  -- what the account has is the same but for the bytes
  held_with : holding_at payer new regions ≡ share_with ds now (holding_at payer old regions)
  unfolding share_in
  held_with =
      ap (λ p. holding (share_in p regions.heap regions.tags)) becomes.own
      ∙ ap holding (share_alike (part payer old) written regions.heap regions.tags (λ s r h. some_alike _ _ (lengths r.of)))

  account_is : account_in new payer ≡ account_in old payer
  account_is = sym (account_of-part payer new) ∙ ap account_of becomes.own ∙ account_of-part payer old

  account_still : IsSessionAccount payer new regions
  account_still = record {
    opens = open_in_part payer new (ap (λ (p : Part). is_some p.account) becomes.own ∙ part_open payer old before.account.opens);
    maps = maps;
    pays =
        ap (λ (a : Account). a.caps_used) account_is ∙ before.account.pays
        ∙ ap (λ n. n + 1) (sym (ap (λ (p : Part). len p.spaces) becomes.own ∙ len-insert_at (part payer old).spaces ds now _ was));
  }

  holds_still : Holds kept session new regions
  unfolding share_in
  holds_still = record {
    account = account_still;
    child = ap (λ (m : NatMap ℕ). get m session.account.0) becomes.parents ∙ before.child;
    leaf = λ k is. before.leaf k (ap (λ (m : NatMap ℕ). get m k) (sym becomes.parents) ∙ is);
    state = subst (kept session.state payer) (sym held_with) (beside.kept_still now long);
  }

  -- and so is the session to its client
  same_row : row_of value buffer new regions session ≡ row_of value buffer old regions session
  unfolding share_in
  same_row =
      let same_value = ap (value session.state) held_with ∙ beside.value_same now long in
      λ i. record { client = session.client.0; key = session.account.0; account = account_is i; value = same_value i; buffer = buffer session.state }

  -- the others see nothing of it
  stays : OthersStay sessions id old new regions regions
  stays k s other found = stays_of_others payer s.account.0 written old new regions becomes (other_account kept sessions old regions server id session there k s other found)

  pub server_written : IsServer kept sessions new regions
  server_written =
      server_with kept sessions sessions old new regions regions server maps id payer
      (λ other apart. (stays_of_others payer other written old new regions becomes apart).held) stays
      (λ s found. ap (λ (x : Session T). x.account.0) (same_Some _ _ (sym found ∙ there)))
      session (record { changed = there; others = λ other apart. refl }) refl (other_account kept sessions old regions server id session there) holds_still

  pub rows_written : sessions_of value buffer sessions new regions ≡ sessions_of value buffer sessions old regions
  rows_written = same _ _ (λ q.
      get-map_of (row_of value buffer new regions) sessions q
      ∙ read_alike (row_of value buffer old regions) (row_of value buffer new regions) (slab.get sessions q) (λ x found. elim (cases_eq q id) [
        | inl here ↦
            let is = same_Some _ _ (sym found ∙ ap (slab.get sessions) here ∙ there) in
            subst (λ (s : Session T). row_of value buffer new regions s ≡ row_of value buffer old regions s) (sym is) same_row
        | inr other ↦ row_stays old new regions regions x value buffer (stays q x other found)
      ])
      ∙ sym (get-map_of (row_of value buffer old regions) sessions q))

pub writes_leave_sessions : {T V : Type 0} (kept : T → ℕ → Share → Type 0) (value : T → Share → V) (buffer : T → Option ℕ) → AllLendAside kept value buffer → WritesLeaveSessions kept value buffer
writes_leave_sessions {T} {V} kept value buffer aside sessions old new regions id ds offset bytes server row is writes =
    let its = read_from (row_of value buffer old regions) (slab.get sessions id) row (sym (get-map_of (row_of value buffer old regions) sessions id) ∙ is) in
    let own = subst (λ (r : Row V). WritesLent r ds offset bytes old new) (sym its.2) writes in (
      server_written kept value buffer aside sessions old new regions server id its.0 its.1 ds offset bytes own,
      rows_written kept value buffer aside sessions old new regions server id its.0 its.1 ds offset bytes own,
    )
