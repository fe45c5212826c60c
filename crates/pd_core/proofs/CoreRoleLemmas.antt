-- What a call leaves of the roles whose accounts it doesn't touch.
use Rattle.std.proofs.Common.{◌≡◌, ℕ, false, ◌∙◌, Some, refl, ap, is_some, arith}
use Rattle.std.specs.Option.{option_map}
use Rattle.std.specs.FinMap.{get, empty}
use Rattle.trade_base.specs.declared.id.SessionId.{SessionId}
use Rattle.own_model.specs.Reserve.{no_reserve}
use Rattle.own_model.specs.NatMap.{NatMap}
use Rattle.own_model.specs.OwnHeap.{no_heap}
use Rattle.own_model.specs.Session.{Labelled}
use Rattle.own_model.specs.OwnState.Object.{OpenSession}
use Rattle.own_model.proofs.NatMapLemmas.{picked_alike}
use Rattle.cap_space.specs.declared.cap.Cap.{Cap}
use Rattle.cap_space.specs.declared.cap.Cap.TheVariants.{Dataspace, RpcObject, Session, Buffer}
use Rattle.region_map.specs.Regions.{Regions}
use Rattle.dataspace_core.specs.Store.{Store, Part, part, account_of, space_at, ram_limits_in, caps_limits_in}
use Rattle.dataspace_core.proofs.PartLaws.{open_in_part, part_open}
use Rattle.server_frame.specs.Frame.{Row}
use Rattle.server_frame.proofs.FrameLemmas.{Stays}
use Rattle.server_kinds.specs.Host.{rows_of}
use Rattle.server_kinds.specs.declared.any_server.AnyServer.{AnyServer}
use Rattle.server_kinds.proofs.HostLaws.{works_still, rows_stay as host_rows}
use Rattle.pd_core.specs.Own.{Sessions, no_sessions, object_of, regions_of, own_of, own_at, own_heap_at, sliced_at, part_at, Lent, lent_in, no_lent}
use Rattle.pd_core.specs.declared.script.Script.{Script}
use Rattle.pd_core.specs.Sound.{session_at, buffer_at, IsSoundScript}
use Rattle.pd_core.specs.Component.{Pays, amounts_in, with_reserve, reserve_in, caps_in, rows_in, own_in, IsSoundServer, IsSoundRole}
use Rattle.pd_core.specs.declared.component.Role.{Role}
use Rattle.pd_core.specs.declared.component.Role.TheVariants.{Script as AScript, Server as AServer, Init as AnInit, Gone as AGone}
use Rattle.pd_core.specs.Core.{Roles, rows_at, Owner, Owns, IsSoundCore}
use Rattle.pd_core.specs.Core.Owner.{Place, ReserveAt, SessionAt}
use Rattle.pd_core.proofs.CoreChangeLemmas.{AgreeOn, Follows}
use Rattle.pd_core.proofs.CoreHeldLemmas.{lender}
use Rattle.pd_core.proofs.ScriptLemmas.{Stays as StaysScript, stays_elsewhere}

-- ---- a script under other sessions

-- what a script has is the same under sessions that agree on those that its selectors name
named_alike : (L : Lent) (S S' : Sessions) (p : Part) (cap : Cap) → ((server : ℕ) (session : SessionId) → cap ≡ Session server session → S' server session.0 ≡ S server session.0) → object_of L S' p cap ≡ object_of L S p cap
named_alike L S S' p (Dataspace ds) agrees = refl
named_alike L S S' p RpcObject agrees = refl
named_alike L S S' p (Buffer space session) agrees = refl
named_alike L S S' p (Session server session) agrees = ap (option_map OpenSession) (agrees server session refl)

module _ (S S' : Sessions) (script : Script) (agrees : (q server : ℕ) (session : SessionId) → get script.caps.caps q ≡ Some (Session server session) → S' server session.0 ≡ S server session.0) where
  pub own_alike : (store : Store) → own_at S' store script ≡ own_at S store script
  unfolding own_of
  own_alike store i = record {
    account = account_of (part_at store script);
    reserve = no_reserve;
    selectors = picked_alike (object_of (lent_in store) S' (part_at store script)) (object_of (lent_in store) S (part_at store script)) script.caps.caps
        (λ q cap there. named_alike (lent_in store) S S' (part_at store script) cap (λ server session is. agrees q server session (there ∙ ap Some is))) i;
    regions = regions_of script.caps.caps script.regions.user;
    heap = own_heap_at store script;
    sliced = sliced_at store script;
    gone = false;
  }

-- ---- roles

-- a map without a region, since what stays does so whatever the map is
no_regions : Regions
no_regions = record { user = empty; most = 0; heap = empty; tags = empty; heap_most = 0; pages = 0 }

-- all that is seen of some accounts stays, and so do all limits
module _ (store store' : Store) (Beside : ℕ → Type 0) (stays : (regions : Regions) (account : ℕ) → Beside account → Stays account store store' regions regions)
    (limits : ram_limits_in store' ≡ ram_limits_in store) (caps_limits : caps_limits_in store' ≡ caps_limits_in store) where
  -- these sessions are on such accounts
  abbrev AreBeside : NatMap (Row Labelled) → Type 0
  AreBeside rows = (id : ℕ) (row : Row Labelled) → get rows id ≡ Some row → Beside row.key

  -- a server, all of whose sessions are on such accounts
  module _ (host : AnyServer) (beside : AreBeside (rows_of store host)) where
    session_stays : (id : ℕ) (row : Row Labelled) → get (rows_of store host) id ≡ Some row → (regions : Regions) → Stays row.key store store' regions regions
    session_stays id row there regions = stays regions row.key (beside id row there)

    -- is sound, if its own account is such a one
    host_sound : (account : ℕ) → Beside account → IsSoundServer store account host → IsSoundServer store' account host
    host_sound account apart sound = record {
      is_open = ap (λ (p : Part). is_some p.account) (stays no_regions account apart).own ∙ sound.is_open;
      works = works_still store store' host session_stays limits sound.works;
      places = omega (arith, sound.places, caps_limits);
    }

  -- a role has the rows that it had
  pub rows_stay : (role : Role) → AreBeside (rows_in store role) → rows_in store' role ≡ rows_in store role
  rows_stay (AScript script) beside = refl
  rows_stay (AServer account host) beside = host_rows store store' host (session_stays host beside)
  rows_stay (AnInit key) beside = refl
  rows_stay AGone beside = refl

  -- who pays for what a role is lent is such an account
  abbrev AreLentBeside : Role → Type 0
  AreLentBeside role = (s q key : ℕ) → buffer_at (get (caps_in role) s) ≡ Some (q, key) → Beside (space_at store key).payer

  -- so a script stays
  script_stays : (script : Script) → IsSoundScript store script → Beside script.account.0 → AreLentBeside (AScript script) → StaysScript store script store'
  script_stays script sound apart lent =
      stays_elsewhere store script sound store' (stays script.regions script.account.0 apart).own limits
      (λ s q key names. (stays script.regions (space_at store key).payer (lent s q key names)).own)

  -- it stays sound
  pub role_sound : (role : Role) → IsSoundRole store role → ((account : ℕ) → Pays role account → Beside account) → AreBeside (rows_in store role) → AreLentBeside role → IsSoundRole store' role
  role_sound (AScript script) sound apart beside lent = (script_stays script sound (apart _ refl) lent).sound
  role_sound (AServer account host) sound apart beside lent = host_sound host beside account.0 (apart _ refl) sound
  role_sound (AnInit key) sound apart beside lent = open_in_part key.0 store' (ap (λ (p : Part). is_some p.account) (stays no_regions key.0 (apart _ refl)).own ∙ part_open key.0 store sound)
  role_sound AGone sound apart beside lent = tt

  -- the own state of a server
  server_own : (account : ℕ) → Beside account → own_of no_lent no_sessions (part account store') empty empty no_heap empty ≡ own_of no_lent no_sessions (part account store) empty empty no_heap empty
  server_own account apart = ap (λ p. own_of no_lent no_sessions p empty empty no_heap empty) (stays no_regions account apart).own

  -- and with the own state that it had, where the sessions that it names are the same
  pub own_stays : (S S' : Sessions) (role : Role) → IsSoundRole store role → ((account : ℕ) → Pays role account → Beside account) → ((account : ℕ) → reserve_in role ≡ Some account → Beside account) → AreLentBeside role →
      AgreeOn (caps_in role) S S' → own_in S' store' role ≡ own_in S store role
  own_stays S S' (AScript script) sound apart kept lent agrees =
      let same : own_at S' store' script ≡ own_at S store script = own_alike S S' script (λ q server session is. agrees q server session (ap session_at is)) store'
      ∙ (script_stays script sound (apart _ refl) lent).own S in
      λ j. with_reserve (amounts_in ((stays script.regions script.reserve.0 (kept _ refl)).own j)) (same j)
  own_stays S S' (AServer account host) sound apart kept lent agrees = server_own account.0 (apart _ refl)
  own_stays S S' (AnInit key) sound apart kept lent agrees = refl
  own_stays S S' AGone sound apart kept lent agrees = refl

-- ---- the roles of a core

-- what is seen of the accounts of all owners but these stays, and so do all limits
pub record Leaves (store : Store) (roles : Roles) (store' : Store) (Touched : Owner → Type 0) : Type 0 where
  pub stays : (owner : Owner) (account : ℕ) → (Touched owner → ⊥) → Owns store roles owner account → (regions : Regions) → Stays account store store' regions regions
  pub ram : ram_limits_in store' ≡ ram_limits_in store
  pub caps : caps_limits_in store' ≡ caps_limits_in store

module _ {store store' : Store} {roles : Roles} {Touched : Owner → Type 0} (leaves : Leaves store roles store' Touched) (k : ℕ) (no_session : (id : ℕ) → Touched (SessionAt k id) → ⊥) where
  -- an account of another owner
  abbrev IsBeside : ℕ → Type 0
  IsBeside account = (owner : Owner) × ((Touched owner → ⊥) × Owns store roles owner account)

  stays_beside : (regions : Regions) (account : ℕ) → IsBeside account → Stays account store store' regions regions
  stays_beside regions account (owner, (other, owns)) = leaves.stays owner account other owns regions

  rows_beside : AreBeside store store' IsBeside stays_beside leaves.ram leaves.caps (rows_in store (roles k))
  rows_beside id row there = (SessionAt k id, (no_session id, ap (option_map (λ (r : Row Labelled). r.key)) there))

  -- it has the rows that it had
  pub rows_left : rows_in store' (roles k) ≡ rows_in store (roles k)
  rows_left = rows_stay store store' IsBeside stays_beside leaves.ram leaves.caps (roles k) rows_beside

  -- and is what it was, where none of its sessions is touched, nor its reserve
  pub role_left : IsSoundCore store roles → (Touched (Place k) → ⊥) → (Touched (ReserveAt k) → ⊥) →
      ((server id : ℕ) (row : Row Labelled) → get (rows_at store roles server) id ≡ Some row → Pays (roles k) row.client → Touched (SessionAt server id) → ⊥) → Follows store (roles k) store' (roles k)
  role_left core other kept others =
      let its : (account : ℕ) → Pays (roles k) account → IsBeside account = λ account pays. (Place k, (other, pays)) in
      let reserve : (account : ℕ) → reserve_in (roles k) ≡ Some account → IsBeside account = λ account is. (ReserveAt k, (kept, is)) in
      let lent : AreLentBeside store store' IsBeside stays_beside leaves.ram leaves.caps (roles k) = λ s q key names.
      let by = lender core k s q key names in
      (SessionAt by.server by.id, (others by.server by.id by.row by.there by.its, by.owns)) in
      record {
        sound = role_sound store store' IsBeside stays_beside leaves.ram leaves.caps (roles k) (core.sound k) its rows_beside lent;
        own = λ S S'. own_stays store store' IsBeside stays_beside leaves.ram leaves.caps S S' (roles k) (core.sound k) its reserve lent;
        caps = refl;
        places = refl;
        pays = λ account pays. pays;
        paid = λ account pays. pays;
        inits = λ account is. is;
        reserve = refl;
        reserved = λ account is. let same = stays_beside no_regions account (reserve account is) in record { own = same.own; parent = same.parent };
      }
