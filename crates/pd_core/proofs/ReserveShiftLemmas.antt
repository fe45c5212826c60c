-- Limits move between a script's account and its reserve: what that makes of the script, and the change that it makes to the core.
use Rattle.std.proofs.Common.{◌≡◌, ◌≢◌, ℕ, ◌+◌, ◌*◌, ◌≤◌, List, Some, is_some, false, refl, sym, ap, subst, ◌∙◌, inl, inr, arith}
use Rattle.std.proofs.lemmas.Option.{same_Some}
use Rattle.std.specs.FinMap.{get}
use Rattle.std.specs.Option.{option_map}
use Rattle.own_model.specs.Account.{Account, WithinLimits}
use Rattle.own_model.specs.Amounts.{Amounts}
use Rattle.own_model.specs.Call.{Call, is_exit}
use Rattle.own_model.specs.NatMap.{NatMap, total}
use Rattle.own_model.specs.OwnHeap.{OwnHeap}
use Rattle.own_model.specs.OwnStep.{own_step}
use Rattle.own_model.specs.Region.{Region}
use Rattle.own_model.specs.Reserve.{no_reserve}
use Rattle.own_model.specs.Session.{Labelled}
use Rattle.own_model.proofs.NatMapLemmas.{picked_alike}
use Rattle.own_model.proofs.Totals.{total_at_le}
use Rattle.cap_space.specs.Space.{Space}
use Rattle.cap_space.specs.declared.cap.Cap.{Cap}
use Rattle.cap_space.specs.declared.cap.Cap.TheVariants.{Dataspace, RpcObject, Session, Buffer}
use Rattle.region_map.specs.Regions.{Regions}
use Rattle.dataspace_core.specs.Room.{HasRoom}
use Rattle.dataspace_core.specs.Share.{share_in}
use Rattle.dataspace_core.specs.Store.{Store, Part, part, account_of, accounts_in, opened_part, root_in, parents_in, ram_limits_in, caps_limits_in, space_at}
use Rattle.dataspace_core.proofs.PartLaws.{open_in_part, part_open}
use Rattle.dataspace_core.proofs.RoomLaws.{account_in_part}
use Rattle.server_frame.specs.Frame.{Row}
use Rattle.server_frame.specs.Session.{holding}
use Rattle.pd_core.specs.Component.{Pays, IsReserve, payer_in, reserve_in, amounts_in, with_reserve, caps_in, own_in, entry_of, IsSoundRole, NamesItsSessions}
use Rattle.pd_core.specs.Core.{Heads, Places, Roles, rows_at, sessions_in, Owner, Owns, NamesAccount, IsInits, IsSoundCore}
use Rattle.pd_core.specs.Exit.{IsScriptRole}
use Rattle.pd_core.specs.Core.Owner.{Place, ReserveAt, SessionAt}
use Rattle.pd_core.specs.Own.{Sessions, Lent, lent_in, object_of, regions_of, own_of, own_at, own_heap_at, sliced_at, part_at}
use Rattle.pd_core.specs.Sessions.{row_session}
use Rattle.pd_core.specs.Sound.{buffer_at, session_weight, IsLawful, IsScript, IsSoundScript}
use Rattle.pd_core.specs.declared.component.Component.{Component}
use Rattle.pd_core.specs.declared.component.Role.TheVariants.{Script as AScript}
use Rattle.pd_core.specs.declared.script.Script.{Script}
use Rattle.pd_core.proofs.CoreChangeLemmas.{InitsRest, AllRestBut, ChangesCore}
use Rattle.pd_core.proofs.CoreHeldLemmas.{lender, IsOf, no_session_of, no_place_of, no_reserve_of, reserve_no_init, script_inits, held_by}
use Rattle.pd_core.proofs.LentLemmas.{LendersStay, LendAlike, own_lent, script_lent, others_still, lent_still}
use Rattle.pd_core.proofs.CoreRoleLemmas.{Leaves, role_left, rows_left}
use Rattle.pd_core.proofs.SessionScriptLemmas.{own_still, same_heap, same_sliced, heaps_stay}
use Rattle.pd_core.proofs.CoreWorldLemmas.{RowsStay, places_kept}

-- ---- the account has other limits

-- what a capability stands for is the same
object_alike : (L : Lent) (S : Sessions) (p : Part) (a : Account) (cap : Cap) → object_of L S (record p { account = Some a }) cap ≡ object_of L S p cap
object_alike L S p a (Dataspace ds) = refl
object_alike L S p a RpcObject = refl
object_alike L S p a (Session server session) = refl
object_alike L S p a (Buffer space session) = refl

-- so the own state has that account, and is else the same
own_with : (L : Lent) (S : Sessions) (p : Part) (a : Account) (caps : NatMap Cap) (user : NatMap Region) (heap : OwnHeap) (sliced : NatMap (List ℕ)) →
    own_of L S (record p { account = Some a }) caps user heap sliced ≡ record (own_of L S p caps user heap sliced) { account = a }
unfolding own_of
own_with L S p a caps user heap sliced i = record {
  account = a;
  reserve = no_reserve;
  selectors = picked_alike (object_of L S (record p { account = Some a })) (object_of L S p) caps (λ q cap there. object_alike L S p a cap) i;
  regions = regions_of caps user;
  heap = heap;
  sliced = sliced;
  gone = false;
}

-- an account has as much in use, within its limits
pub record UsesAsMuch (was is : Account) : Type 0 where
  pub ram : is.ram_used ≡ was.ram_used
  pub caps : is.caps_used ≡ was.caps_used
  pub within : WithinLimits is

lawful_with : (L : Lent) (S : Sessions) (p : Part) (a : Account) (caps : NatMap Cap) (user : NatMap Region) (heap : OwnHeap) (sliced : NatMap (List ℕ)) → UsesAsMuch (account_of p) a →
    IsLawful (own_of L S p caps user heap sliced) → IsLawful (own_of L S (record p { account = Some a }) caps user heap sliced)
unfolding own_of
lawful_with L S p a caps user heap sliced as_much law =
    subst IsLawful (sym (own_with L S p a caps user heap sliced)) (record {
      sound = record {
        whole = law.sound.whole;
        mapped = law.sound.mapped;
        blocks = law.sound.blocks;
        heap_parts = law.sound.heap_parts;
        starts = law.sound.starts;
        heap = law.sound.heap;
      };
      uses = record { ram = as_much.ram ∙ law.uses.ram; caps = as_much.caps ∙ law.uses.caps };
      within = as_much.within;
    })

script_with : {L : Lent} {p : Part} {space : Space} {regions : Regions} {heap : OwnHeap} {sliced : NatMap (List ℕ)} (a : Account) → UsesAsMuch (account_of p) a →
    a.caps_limit + total session_weight space.caps ≤ space.places → a.ram_limit ≤ regions.pages * 4096 → IsScript L p space regions heap sliced → IsScript L (record p { account = Some a }) space regions heap sliced
script_with {L} {p} {space} {regions} {heap} {sliced} a as_much placed ram script = record {
  named = record { there = script.named.there; one = script.named.one };
  paid = record { is_open = refl; named = omega (arith, script.paid.named, as_much.caps); spare = omega (arith, script.paid.spare, as_much.caps); placed = placed };
  ram = ram;
  attached = script.attached;
  most = script.most;
  blocks = record { held = script.blocks.held; unnamed = script.blocks.unnamed };
  lawful = λ sessions ready. lawful_with L sessions p a space.caps regions.user heap sliced as_much (script.lawful sessions ready);
}

module _ (store store' : Store) (script : Script) (sound : IsSoundScript store script) (a : Account) (own : part script.account.0 store' ≡ record (part_at store script) { account = Some a })
    (limits : ram_limits_in store' ≡ ram_limits_in store) (lenders : LendersStay store store' script.caps.caps) where
  seen : LendAlike (lent_in store) (lent_in store') script.caps.caps
  seen = lent_still script.account.0 store store' script.caps.caps sound.lent lenders

  -- the script's own state has that account
  pub own_moved : (S : Sessions) → own_at S store' script ≡ record (own_at S store script) { account = a }
  own_moved S =
      own_still store store' script (Some a) sound own refl limits script.caps script.regions.user S
      ∙ (λ i. own_of (lent_in store') S (own i) script.caps.caps script.regions.user (own_heap_at store script) (sliced_at store script))
      ∙ own_lent (lent_in store) (lent_in store') (record (part_at store script) { account = Some a }) script.caps.caps seen script.regions.user (own_heap_at store script) (sliced_at store script) S
      ∙ own_with (lent_in store) S (part_at store script) a script.caps.caps script.regions.user (own_heap_at store script) (sliced_at store script)

  -- and it is sound
  pub sound_moved : UsesAsMuch (account_of (part_at store script)) a → a.caps_limit + total session_weight script.caps.caps ≤ script.caps.places → IsSoundScript store' script
  sound_moved as_much placed =
      let least : a.ram_limit ≤ ram_limits_in store' = total_at_le (λ (x : Account). x.ram_limit) (accounts_in store') script.account.0 a (account_in_part script.account.0 store' a (ap (λ (q : Part). q.account) own)) in
      let ram : a.ram_limit ≤ script.regions.pages * 4096 = omega (arith, least, limits, sound.heaps.sliced.maps.pages) in
      record {
        own = subst (λ h. IsScript (lent_in store') (part script.account.0 store') script.caps script.regions h (sliced_at store' script)) (sym (same_heap store store' script (Some a) sound own refl limits))
            (subst (IsScript (lent_in store') (part script.account.0 store') script.caps script.regions (own_heap_at store script)) (sym (same_sliced store store' script (Some a) sound own refl limits script.caps script.regions.user))
            (subst (λ p. IsScript (lent_in store') p script.caps script.regions (own_heap_at store script) (sliced_at store script)) (sym own) (script_lent seen (script_with a as_much placed ram sound.own))));
        lent = others_still script.account.0 store store' script.caps.caps sound.lent lenders;
        heaps = heaps_stay store store' script (Some a) sound own refl limits script.caps script.regions.user;
      }

-- ---- limits move

-- a script's account has other limits, and its reserve these; all else stays
pub record Shifts (heads : Heads) (script : Script) (a : Account) (has : Amounts) (store store' : Store) : Type 0 where
  pub own : part script.account.0 store' ≡ record (part_at store script) { account = Some a }
  pub kept : part script.reserve.0 store' ≡ opened_part has.ram has.caps
  pub others : AllRestBut script.account.0 script.reserve.0 store store'
  pub root : root_in store' ≡ root_in store
  pub parents : parents_in store' ≡ parents_in store
  pub ram : ram_limits_in store' ≡ ram_limits_in store
  pub caps : caps_limits_in store' ≡ caps_limits_in store
  pub room : HasRoom heads store'

module _ {store store' : Store} {roles : Roles} (core : IsSoundCore store roles) (i : ℕ) (script : Script) (is_script : roles i ≡ AScript script) {a : Account} {has : Amounts} (shifts : Shifts core.heads script a has store store') where
  abbrev payer : ℕ
  payer = script.account.0

  abbrev reserve : ℕ
  reserve = script.reserve.0

  pays : Pays (roles i) script.account.0
  pays = subst (λ r. Pays r script.account.0) (sym is_script) refl

  has_reserve : reserve_in (roles i) ≡ Some script.reserve.0
  has_reserve = ap reserve_in is_script

  -- the component and its reserve are touched
  module _ (owner : Owner) (one : ℕ) (other : IsOf i owner → ⊥) (owns : Owns store roles owner one) where
    not_payer : one ≢ payer
    not_payer e = other (inl (core.apart owner (Place i) payer (subst (Owns store roles owner) e owns) pays))

    not_reserve : one ≢ reserve
    not_reserve e = other (inr (core.apart owner (ReserveAt i) reserve (subst (Owns store roles owner) e owns) has_reserve))

    rests : part one store' ≡ part one store
    rests = shifts.others one not_payer not_reserve

  leaves : Leaves store roles store' (IsOf i)
  leaves = record {
    stays = λ owner one other owns regions.
        let own = rests owner one other owns in
        record {
          own = own;
          held = ap (λ p. holding (share_in p regions.heap regions.tags)) own;
          parent = ap (λ (m : NatMap ℕ). get m one) shifts.parents;
          leaf = λ leaf child below. leaf child (ap (λ (m : NatMap ℕ). get m child) (sym shifts.parents) ∙ below);
        };
    ram = shifts.ram;
    caps = shifts.caps;
  }

  calls : IsScriptRole (roles i)
  calls = subst IsScriptRole (sym is_script) refl

  -- all rows stay
  same_rows : RowsStay store roles store' roles
  same_rows k = rows_left leaves k (no_session_of i k)

  all_rows : ◌≡◌ {A = ℕ → NatMap (Row Labelled)} (rows_at store roles) (rows_at store' roles)
  all_rows j k = sym (same_rows k) j

  -- and so do all sessions
  pub sessions_same : sessions_in store' roles ≡ sessions_in store roles
  sessions_same j server session = option_map (row_session server) (get (same_rows server j) session)

  -- inits' accounts rest
  pub inits_rest : InitsRest roles store store'
  inits_rest one its =
      shifts.others one (λ e. script_inits core i payer pays calls (subst (IsInits store roles) e its)) (λ e. reserve_no_init core i reserve has_reserve (subst (IsInits store roles) e its))

  -- what the script is lent is others'
  lenders : LendersStay store store' script.caps.caps
  lenders s q key names =
      let by = lender core i s q key (ap (λ r. buffer_at (get (caps_in r) s)) is_script ∙ names) in
      rests (SessionAt by.server by.id) (space_at store key).payer (no_session_of i by.server by.id) by.owns

  script_sound : IsSoundScript store script
  script_sound = subst (IsSoundRole store) is_script (core.sound i)

  pub own_shifted : (S : Sessions) → own_in S store' (AScript script) ≡ with_reserve has (record (own_at S store script) { account = a })
  own_shifted S j = with_reserve (amounts_in (shifts.kept j)) (own_moved store store' script script_sound a shifts.own shifts.ram lenders S j)

  -- so the core changes
  module _ (as_much : UsesAsMuch (account_of (part_at store script)) a) (placed : a.caps_limit + total session_weight script.caps.caps ≤ script.caps.places)
      (places : Places) (caller : Component) (call : Call) (on : is_exit call ≡ false)
      (next : own_in (sessions_in store' roles) store' (roles i) ≡ (own_step (entry_of (places i) caller) call (own_in (sessions_in store roles) store (roles i))).next) where
    pub shift_change : ChangesCore core.heads i 0 0 store roles store' roles
    shift_change = record {
      script = calls;
      others = λ k other. role_left leaves k (no_session_of i k) core (no_place_of i k other) (no_reserve_of i k other) (λ server id _ _ _. no_session_of i server id);
      sound = subst (IsSoundRole store') (sym is_script) (sound_moved store store' script script_sound a shifts.own shifts.ram lenders as_much placed);
      pays = λ account its. its;
      reserve = λ account is. is;
      reserved = λ account is.
          let same : account ≡ reserve = same_Some account reserve (sym is ∙ has_reserve) in
          let was = core.reserved i reserve has_reserve in
          subst (IsReserve store' (payer_in (roles i))) (sym same) (record {
            beside = ap (λ (m : NatMap ℕ). get m reserve) shifts.parents ∙ was.beside ∙ ap (λ (m : NatMap ℕ). get m (payer_in (roles i))) (sym shifts.parents);
            unused = subst (λ p. p ≡ opened_part (account_of p).ram_limit (account_of p).caps_limit) (sym shifts.kept) refl;
          });
      rows = λ server id _. ap (λ (m : NatMap (Row Labelled)). get m id) (same_rows server);
      row = inl (ap (λ (m : NatMap (Row Labelled)). get m 0) (same_rows 0));
      named = subst (λ rows. NamesItsSessions rows (roles i)) all_rows (core.named i);
      held = λ child parent its below.
          subst (λ rows. NamesAccount rows (roles i) child parent) all_rows (held_by core i parent its calls child (ap (λ (m : NatMap ℕ). get m child) (sym shifts.parents) ∙ below));
      placed = places_kept (sessions_in store roles) (sessions_in store' roles) store store' (roles i) (roles i) (entry_of (places i) caller) call on next refl (core.placed i);
      init = open_in_part (root_in store) store' (ap (λ (p : Part). is_some p.account) (inits_rest (root_in store) (inl refl)) ∙ part_open (root_in store) store core.init);
      root = shifts.root;
      children = λ k account _ _. ap (λ (m : NatMap ℕ). get m account) shifts.parents;
      parents = λ child parent below. inr (ap (λ (m : NatMap ℕ). get m child) (sym shifts.parents) ∙ below);
      room = shifts.room;
    }
