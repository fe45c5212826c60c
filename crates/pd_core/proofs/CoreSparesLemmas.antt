-- What a script's call leaves of the rest of a core, be it that it leaves all other parts or that it writes into what a session lends.
use Rattle.std.proofs.Common.{◌≡◌, ◌≢◌, ℕ, ◌+◌, ◌≤◌, List, [], length, Some, is_some, unwrap_or, refl, sym, ap, subst, ◌∙◌, inl, inr, arith}
use Rattle.std.proofs.lemmas.Bool.{cases_eq}
use Rattle.std.proofs.lemmas.Option.{none-some, same_Some}
use Rattle.std.specs.FinMap.{get, empty}
use Rattle.own_model.specs.OwnHeap.{no_heap}
use Rattle.own_model.specs.Session.{Labelled}
use Rattle.own_model.proofs.NatMapLemmas.{get-empty}
use Rattle.quota_core.specs.Books.{Books, ram_limits, caps_limits}
use Rattle.dataspace_core.specs.Room.{HasRoom}
use Rattle.dataspace_core.specs.Store.{Store, Part, part, part_with_bytes, ram_limits_in, caps_limits_in, space_at, Exists, PartBecomes}
use Rattle.dataspace_core.proofs.PartLaws.{paid_in_part}
use Rattle.server_frame.specs.Frame.{Row}
use Rattle.server_frame.specs.Theorems.{WritesLent as WritesRow}
use Rattle.server_frame.proofs.FrameLaws.{stays_of_others}
use Rattle.server_kinds.proofs.HostLaws.{written as host_written}
use Rattle.pd_core.specs.Component.{Pays, caps_in, rows_in, Works, IsSoundRole}
use Rattle.pd_core.specs.Core.{Heads, Roles, rows_at, Owner, Owns, IsInits, IsSoundCore}
use Rattle.pd_core.specs.Exit.{IsScriptRole}
use Rattle.pd_core.specs.Core.Owner.{Place, ReserveAt, SessionAt}
use Rattle.pd_core.specs.Own.{no_sessions, no_lent, own_of}
use Rattle.pd_core.specs.Sound.{WritesLent}
use Rattle.pd_core.specs.declared.component.Role.{Role}
use Rattle.pd_core.specs.declared.component.Role.TheVariants.{Script as AScript, Server as AServer, Init as AnInit, Gone as AGone}
use Rattle.pd_core.proofs.CoreChangeLemmas.{InitsRest, ReserveRests, Follows, OthersFollow, follows_itself}
use Rattle.pd_core.proofs.CoreHeldLemmas.{IsLender, lender, same_place, no_place, no_reserve_place, no_reserve_session, same_session, session_no_init, pays_alone, script_inits}
use Rattle.pd_core.proofs.LentWriteLemmas.{same_books, room_by_books}
use Rattle.pd_core.proofs.CoreRoleLemmas.{Leaves, role_left, rows_left}
use Rattle.pd_core.proofs.ServerLemmas.{server_of_row, sound_works}

-- all sessions of the others and all their roles stay, and so do inits' parts, the caller's reserve and the room for accounts
pub record SparesRest (heads : Heads) (i : ℕ) (store : Store) (roles : Roles) (store' : Store) : Type 0 where
  pub rows : (k : ℕ) → k ≢ i → rows_in store' (roles k) ≡ rows_in store (roles k)
  pub follows : OthersFollow i store roles store' roles
  pub inits : InitsRest roles store store'
  pub reserve : ReserveRests (roles i) store store'
  pub caps : caps_limits_in store' ≡ caps_limits_in store
  pub room : HasRoom heads store'

-- ---- all other parts stay

module _ {store store' : Store} {roles : Roles} (core : IsSoundCore store roles) (i payer : ℕ) (script : IsScriptRole (roles i)) (pays : Pays (roles i) payer) (becomes : PartBecomes payer (part payer store') store store')
    (ram : ram_limits_in store' ≡ ram_limits_in store) (caps : caps_limits_in store' ≡ caps_limits_in store) (room : HasRoom core.heads store') where
  leaves : Leaves store roles store' (λ owner. owner ≡ Place i)
  leaves = record {
    stays = λ owner account other owns regions.
        stays_of_others payer account (part payer store') store store' regions becomes (λ e. other (pays_alone core i payer pays owner (subst (Owns store roles owner) e owns)));
    ram = ram;
    caps = caps;
  }

  pub spares_beside : SparesRest core.heads i store roles store'
  spares_beside = record {
    rows = λ k other. rows_left leaves k (λ id. no_place i k id);
    follows = λ k other. role_left leaves k (λ id. no_place i k id) core (λ e. other (same_place k i e)) (λ e. no_reserve_place i k (sym e)) (λ server id _ _ _. no_place i server id);
    inits = λ account is. becomes.others account (λ e. script_inits core i payer pays script (subst (IsInits store roles) e is));
    reserve = λ account is. becomes.others account (λ e. no_reserve_place i i (sym (pays_alone core i payer pays (ReserveAt i) (is ∙ ap Some e))));
    caps = caps;
    room = room;
  }

-- ---- a server whose session's buffer is written

-- who has a row has one still
module _ (store store' : Store) (role : Role) (id : ℕ) (row : Row Labelled) where
  -- its rows stay, and it works
  written : get (rows_in store role) id ≡ Some row → (ds offset : ℕ) (bytes : List ℕ) → Works store role → WritesRow row ds offset bytes store store' →
      Works store' role × (rows_in store' role ≡ rows_in store role)
  written there ds offset bytes works writes =
      let its = server_of_row store role id row there in
      subst (λ r. Works store' r × (rows_in store' r ≡ rows_in store r)) (sym its.1.1)
      (host_written store store' its.1.0 id row (ap (λ r. get (rows_in store r) id) (sym its.1.1) ∙ there) ds offset bytes (subst (Works store) its.1.1 works) writes)

-- it is what it was
server_follows : (store store' : Store) (id : ℕ) (row : Row Labelled) (role : Role) → get (rows_in store role) id ≡ Some row → IsSoundRole store role → Works store' role →
    ((account : ℕ) → Pays role account → part account store' ≡ part account store) → caps_limits_in store' ≡ caps_limits_in store → Follows store role store' role
server_follows store store' id row (AScript script) there sound works same caps = absurd (none-some row (sym (get-empty id) ∙ there))
server_follows store store' id row (AServer account host) there sound works same caps =
    follows_itself (AServer account host) refl (record { is_open = ap (λ (p : Part). is_some p.account) (same account.0 refl) ∙ sound.is_open; works = works; places = omega (arith, sound.places, caps) })
    (λ S S' _. ap (λ p. own_of no_lent no_sessions p empty empty no_heap empty) (same account.0 refl))
server_follows store store' id row (AnInit key) there sound works same caps = absurd (none-some row (sym (get-empty id) ∙ there))
server_follows store store' id row AGone there sound works same caps = absurd (none-some row (sym (get-empty id) ∙ there))

-- ---- a session's buffer is written

module _ {store store' : Store} {roles : Roles} (core : IsSoundCore store roles) (i : ℕ) (writes : WritesLent (caps_in (roles i)) store store') where
  -- the session that lends it
  abbrev by : IsLender core i writes.key
  by = lender core i writes.selector writes.session writes.key writes.names

  exists : Exists store writes.key
  exists = (paid_in_part by.row.key writes.key (space_at store writes.key).bytes store by.has).exists

  -- no account changes
  books : store'.books ≡ store.books
  books = same_books store store' writes.key writes.offset writes.bytes exists writes.becomes

  ram : ram_limits_in store' ≡ ram_limits_in store
  ram = ap (λ (b : Books). ram_limits b) books

  caps : caps_limits_in store' ≡ caps_limits_in store
  caps = ap (λ (b : Books). caps_limits b) books

  -- another owner's account isn't the session's
  not_its : (owner : Owner) (account : ℕ) → owner ≢ SessionAt by.server by.id → Owns store roles owner account → account ≢ (space_at store writes.key).payer
  not_its owner account other owns e =
      other (core.apart owner (SessionAt by.server by.id) account owns (subst (Owns store roles (SessionAt by.server by.id)) (sym e) by.owns))

  leaves_session : Leaves store roles store' (λ owner. owner ≡ SessionAt by.server by.id)
  leaves_session = record {
    stays = λ owner account other owns regions.
        stays_of_others (space_at store writes.key).payer account _ store store' regions writes.becomes (not_its owner account other owns);
    ram = ram;
    caps = caps;
  }

  other_server : (k : ℕ) → k ≢ by.server → (id : ℕ) → SessionAt k id ≢ SessionAt by.server by.id
  other_server k other id e = other (same_session k id by.server by.id e).0

  -- nor is it another component's
  other_client : (k : ℕ) → k ≢ i → (server id : ℕ) (row : Row Labelled) → get (rows_at store roles server) id ≡ Some row → Pays (roles k) row.client → SessionAt server id ≢ SessionAt by.server by.id
  other_client k other server id row there its e =
      let at = same_session server id by.server by.id e in
      let same : row ≡ by.row = same_Some row by.row (sym there ∙ (λ j. get (rows_at store roles (at.0 j)) (at.1 j)) ∙ by.there) in
      other (same_place k i (core.apart (Place k) (Place i) by.row.client (subst (λ (r : Row Labelled). Pays (roles k) r.client) same its) by.its))

  -- ---- the server

  writes_row : WritesRow by.row writes.key writes.offset writes.bytes store store'
  writes_row = record {
    lends = by.lends;
    within = subst (λ (l : List ℕ). writes.offset + length writes.bytes ≤ length l) (sym (ap (λ o. unwrap_or o []) by.has)) writes.within;
    becomes = subst (λ a. PartBecomes a (part_with_bytes (part a store) writes.key writes.offset writes.bytes) store store') by.payer writes.becomes;
    machine = ram;
  }

  server_written : Works store' (roles by.server) × (rows_in store' (roles by.server) ≡ rows_in store (roles by.server))
  server_written =
      written store store' (roles by.server) by.id by.row by.there writes.key writes.offset writes.bytes (sound_works store (roles by.server) (core.sound by.server)) writes_row

  host_follows : Follows store (roles by.server) store' (roles by.server)
  host_follows =
      server_follows store store' by.id by.row (roles by.server) by.there (core.sound by.server) server_written.0
      (λ account pays. writes.becomes.others account (not_its (Place by.server) account (λ e. no_place by.server by.server by.id (sym e)) pays)) caps

  -- ---- so the rest stays

  pub spares_lent : SparesRest core.heads i store roles store'
  spares_lent = record {
    rows = λ k other. elim (cases_eq k by.server) [
      | inl at ↦ subst (λ n. rows_in store' (roles n) ≡ rows_in store (roles n)) (sym at) server_written.1
      | inr differs ↦ rows_left leaves_session k (other_server k differs)
    ];
    follows = λ k other. elim (cases_eq k by.server) [
      | inl at ↦ subst (λ n. Follows store (roles n) store' (roles n)) (sym at) host_follows
      | inr differs ↦ role_left leaves_session k (other_server k differs) core (λ e. no_place k by.server by.id (sym e)) (λ e. no_reserve_session by.server by.id k (sym e)) (other_client k other)
    ];
    inits = λ account is. writes.becomes.others account (λ e. session_no_init core by.server by.id (space_at store writes.key).payer by.owns (subst (IsInits store roles) e is));
    reserve = λ account is. writes.becomes.others account (not_its (ReserveAt i) account (λ e. no_reserve_session by.server by.id i (sym e)) is);
    caps = caps;
    room = room_by_books core.heads books core.room;
  }
