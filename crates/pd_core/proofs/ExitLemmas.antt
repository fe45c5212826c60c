-- A component goes that has no session any more: the change that it makes to the core, and the world that it leaves.
use Rattle.std.proofs.Common.{◌≡◌, ◌≢◌, arith, ℕ, ◌<◌, List, None, Some, is_some, true, true≢false, unwrap_or, length, get_or, set, refl, sym, ap, subst, ◌∙◌, inl, inr}
use Rattle.std.proofs.lemmas.Bool.{cases_eq}
use Rattle.std.proofs.lemmas.Option.{none-some}
use Rattle.std.proofs.lemmas.List.{get_or-map}
use Rattle.own_model.specs.OwnState.{OwnState}
use Rattle.std.specs.FinMap.{get, empty}
use Rattle.std.specs.Prelude.{◌⊎◌, ◌+◌, IfSome, IsSome}
use Rattle.own_model.specs.Account.{Account}
use Rattle.own_model.specs.Donation.{raised}
use Rattle.own_model.specs.NatMap.{NatMap}
use Rattle.own_model.specs.OwnStep.{exited_state}
use Rattle.own_model.specs.Session.{Labelled}
use Rattle.own_model.specs.StartList.{Entry, init_at}
use Rattle.own_model.specs.StartList.Kind.{Script as AScriptKind}
use Rattle.own_model.specs.Transcript.{nothing, entry_at, state_at}
use Rattle.own_model.proofs.NatMapLemmas.{none_if, before_remove, get-remove_other}
use Rattle.dataspace_core.specs.Room.{HasRoom}
use Rattle.dataspace_core.specs.Share.{share_in}
use Rattle.dataspace_core.specs.Store.{Store, Part, part, account_of, account_in, parents_in, parent_in, root_in, ram_limits_in, caps_limits_in, IsOpenIn, IsChildIn, IsLeafIn}
use Rattle.dataspace_core.proofs.PartLaws.{account_of-part, open_in_part, part_open}
use Rattle.server_frame.specs.Frame.{Row}
use Rattle.server_frame.specs.Session.{holding}
use Rattle.pd_core.specs.Component.{Pays, amounts_in, reserve_in, reserve_of, IsReserve, IsOwnReserve, HasOwnReserve, kind_of, offer_in, payer_in, payer_of, caps_in, caps_of, rows_in, own_in, own, lent_by, NamesItsSessions, HasPlaces, IsSoundRole}
use Rattle.pd_core.specs.Core.{Places, Roles, roles_of, rows_at, sessions_in, entries_of, world_of, Owner, Owns, IsInitOf, IsInits, IsBelowHead, IsCore}
use Rattle.pd_core.specs.Core.Owner.{Init, Place, ReserveAt, SessionAt}
use Rattle.pd_core.specs.Exit.{IsScriptRole, ClosesBoth}
use Rattle.pd_core.specs.Own.{Sessions, own_of}
use Rattle.pd_core.specs.SessionCalls.{AreBelowParents, ParentsStay, RoutesStay}
use Rattle.pd_core.specs.Sound.{session_at, buffer_at}
use Rattle.pd_core.specs.declared.component.Component.{Component}
use Rattle.pd_core.specs.declared.component.Role.{Role}
use Rattle.pd_core.specs.declared.component.Role.TheVariants.{Script as AScript, Server as AServer, Init as AnInit, Gone as AGone}
use Rattle.pd_core.proofs.CoreChangeLemmas.{ChangesCore, Follows, OthersFollow, follows_itself, core_after, homes_after}
use Rattle.pd_core.proofs.ComponentLemmas.{a_script, pays_is, pays_script}
use Rattle.dataspace_core.proofs.RoomLaws.{room_after_exit}
use Rattle.pd_core.proofs.CoreHeldLemmas.{names_none, same_place, not_place, no_reserve_place, IsOf, no_session_of, no_place_of, no_reserve_of, init_pays, session_no_init, reserve_no_init, reserve_no_head, place_outer, pays_alone, script_inits, held_by, client_pays}
use Rattle.pd_core.proofs.ExitHomeLemmas.{inits_gain}
use Rattle.pd_core.proofs.CoreRoleLemmas.{Leaves, role_left, rows_left}
use Rattle.pd_core.proofs.CoreWorldLemmas.{RowsStay, rows_kept, same_leads, SameFaces, face_set, entries_at, world_changed, role_at, role_set, role_kept}

-- ---- a role that is a script's

-- to a start list it is a script
pub kind_of_script : (role : Role) → IsScriptRole role → kind_of role ≡ AScriptKind
kind_of_script role is = ap kind_of (a_script role is).1

-- it serves no session
rows_of_script : (store : Store) (role : Role) → IsScriptRole role → rows_in store role ≡ empty
rows_of_script store role is = ap (rows_in store) (a_script role is).1

-- its own state has its account
account_of_script : (S : Sessions) (store : Store) (role : Role) → IsScriptRole role → (own_in S store role).account ≡ account_of (part (payer_in role) store)
unfolding own_of
account_of_script S store role is = subst (λ r. (own_in S store r).account ≡ account_of (part (payer_in r) store)) (sym (a_script role is).1) refl

-- it has a reserve
abbrev pub script_reserve : (role : Role) → IsScriptRole role → (account : ℕ) × (reserve_in role ≡ Some account)
script_reserve role is = let its = a_script role is in (its.0.reserve.0, ap reserve_in its.1)

-- which its own state tells
reserve_of_script : (S : Sessions) (store : Store) (role : Role) (is : IsScriptRole role) → (own_in S store role).reserve ≡ amounts_in (part (script_reserve role is).0 store)
reserve_of_script S store role is = ap (λ r. (own_in S store r).reserve) (a_script role is).1

-- limits that come in two parts
raised_twice : (a : Account) (ram caps more extra : ℕ) → raised (raised a ram caps) more extra ≡ raised a (ram + more) (caps + extra)
raised_twice a ram caps more extra =
    let both : a.ram_limit + ram + more ≡ a.ram_limit + (ram + more) = omega arith in
    let all : a.caps_limit + caps + extra ≡ a.caps_limit + (caps + extra) = omega arith in
    λ j. record a { ram_limit = both j; caps_limit = all j }

-- it serves nothing
offer_of_script : (role : Role) → IsScriptRole role → offer_in role ≡ None
offer_of_script role is = ap offer_in (a_script role is).1

-- an init follows where its account is open
init_role_follows : {store store' : Store} (role : Role) (account : ℕ) → IsInitOf role account → IsOpenIn store' account → Follows store role store' role
init_role_follows (AScript script) account is opens = absurd is
init_role_follows (AServer key host) account is opens = absurd is
init_role_follows {store' = store'} (AnInit key) account is opens = follows_itself (AnInit key) refl (subst (IsOpenIn store') (sym is) opens) (λ S S' _. refl)
init_role_follows AGone account is opens = absurd is

-- ---- a script without a session

-- a script stands at a place of a core's components, and none of its selectors names a session
pub record IsAlone (store : Store) (components : List Component) (i : ℕ) (d : Component) : Type 0 where
  pub core : IsCore store components
  pub here : i < length components
  pub is_script : IsScriptRole (get_or components i d).role
  pub none : (q : ℕ) → session_at (get (caps_of (get_or components i d)) q) ≡ None

module _ {store : Store} {components : List Component} {i : ℕ} {d : Component} (alone : IsAlone store components i d) where
  open alone use {core, here, is_script, none}

  abbrev payer : ℕ
  payer = payer_of (get_or components i d)

  abbrev roles : Roles
  roles = roles_of components

  is_caller : roles_of components i ≡ (get_or components i d).role
  is_caller = role_at components i d here

  pays : Pays (roles_of components i) (payer_of (get_or components i d))
  pays = subst (λ r. Pays r (payer_of (get_or components i d))) (sym is_caller) (pays_script (get_or components i d).role is_script)

  calls : IsScriptRole (roles_of components i)
  calls = subst IsScriptRole (sym is_caller) is_script

  -- its account was opened below a head, which is an init's
  home : IsBelowHead store core.heads (payer_of (get_or components i d))
  home = core.children i (payer_of (get_or components i d)) pays

  pub alone_child : IsSome (get (parents_in store) (payer_of (get_or components i d)))
  alone_child = ap is_some home.child

  abbrev head : ℕ
  head = parent_in store (payer_of (get_or components i d))

  below_head : IsChildIn store (payer_of (get_or components i d)) (parent_in store (payer_of (get_or components i d)))
  below_head = home.child ∙ ap Some (sym (ap (λ o. unwrap_or o (root_in store)) home.child))

  is_head : core.heads head ≡ true
  is_head = place_outer core i payer pays head below_head

  head_inits : IsInits store roles head
  head_inits = core.inits head is_head

  -- and none below it
  pub alone_leaf : IsLeafIn store (payer_of (get_or components i d))
  alone_leaf child below =
      let names = held_by core i (payer_of (get_or components i d)) pays calls child below in
      none-some (names.server, names.session) (sym (none names.selector) ∙ ap (λ r. session_at (get (caps_in r) names.selector)) (sym is_caller) ∙ names.names)

  -- nor has it a buffer, as that is of a session that it names
  pub alone_unlent : (q : ℕ) → buffer_at (get (caps_of (get_or components i d)) q) ≡ None
  alone_unlent q =
      let named = subst (NamesItsSessions (rows_at store (roles_of components))) is_caller (core.named i) in
      none_if (buffer_at (get (caps_of (get_or components i d)) q)) (λ b has. none-some b.1 (sym (ap (lent_by (rows_at store (roles_of components))) (none b.0)) ∙ named.lent q b.0 b.1 has))

  -- ---- its reserve

  -- the account of that
  abbrev reserve : ℕ
  reserve = (script_reserve (get_or components i d).role is_script).0

  has_reserve : reserve_in (roles_of components i) ≡ Some (script_reserve (get_or components i d).role is_script).0
  has_reserve = ap reserve_in is_caller ∙ (script_reserve (get_or components i d).role is_script).1

  reserve_apart : reserve ≢ payer
  reserve_apart e = no_reserve_place i i (sym (pays_alone core i payer pays (ReserveAt i) (has_reserve ∙ ap Some e)))

  -- below the same head
  reserve_below : IsChildIn store reserve head
  reserve_below = (core.reserved i reserve has_reserve).beside ∙ ap (λ r. get (parents_in store) (payer_in r)) is_caller ∙ below_head

  -- is one of its own, with none below it
  pub alone_reserve : HasOwnReserve store (get_or components i d).role
  alone_reserve =
      subst (λ o. IfSome o (λ one. IsOwnReserve store (payer_of (get_or components i d)) one)) (sym (script_reserve (get_or components i d).role is_script).1) (record {
        apart = reserve_apart;
        not_above = λ below. true≢false (sym (place_outer core i payer pays reserve below) ∙ reserve_no_head core i reserve has_reserve);
        is_reserve = subst (λ r. IsReserve store (payer_in r) reserve) is_caller (core.reserved i reserve has_reserve);
        leaf = λ child below.
            let held = core.held child reserve below (reserve_no_head core i reserve has_reserve) in
            no_reserve_place held.0 i (core.apart (Place held.0) (ReserveAt i) reserve (client_pays core held.0 child reserve held.1) has_reserve);
      })

  -- which closes after the component's own
  pub closes_reserve : (store' : Store) →
      IfSome (reserve_of (get_or components i d)) (λ one. ClosesBoth (payer_of (get_or components i d)) one (parent_in store (payer_of (get_or components i d))) store store') →
      ClosesBoth (payer_of (get_or components i d)) (script_reserve (get_or components i d).role is_script).0 (parent_in store (payer_of (get_or components i d))) store store'
  closes_reserve store' closes =
      subst (λ o. IfSome o (λ one. ClosesBoth (payer_of (get_or components i d)) one (parent_in store (payer_of (get_or components i d))) store store')) (script_reserve (get_or components i d).role is_script).1 closes

  -- ---- it goes, and both accounts

  module _ {store' : Store} (closes : ClosesBoth (payer_of (get_or components i d)) (script_reserve (get_or components i d).role is_script).0 (parent_in store (payer_of (get_or components i d))) store store')
      (ram : ram_limits_in store' ≡ ram_limits_in store) (caps : caps_limits_in store' ≡ caps_limits_in store) where
    open closes use {between, first, last}

    abbrev after : Component
    after = record (get_or components i d) { role = AGone }

    abbrev components' : List Component
    components' = set components i (record (get_or components i d) { role = AGone })

    abbrev roles' : Roles
    roles' = roles_of (set components i (record (get_or components i d) { role = AGone }))

    is_gone : roles_of (set components i (record (get_or components i d) { role = AGone })) i ≡ AGone
    is_gone = role_set components i (record (get_or components i d) { role = AGone }) i refl here

    -- its init and it are touched, and its reserve
    abbrev Touched : Owner → Type 0
    Touched owner = Owns store roles owner head ⊎ IsOf i owner

    was_child : (child parent : ℕ) → IsChildIn store' child parent → IsChildIn store child parent
    was_child child parent is =
        before_remove (parents_in store) payer child parent (ap (λ (m : NatMap ℕ). get m child) (sym first.parents)
        ∙ before_remove (parents_in between) reserve child parent (ap (λ (m : NatMap ℕ). get m child) (sym last.parents) ∙ is))

    -- the others have the parents that they had
    same_parent : (account : ℕ) → account ≢ payer → account ≢ reserve → get (parents_in store') account ≡ get (parents_in store) account
    same_parent account not_payer not_reserve =
        ap (λ (m : NatMap ℕ). get m account) last.parents ∙ get-remove_other (parents_in between) reserve account not_reserve
        ∙ ap (λ (m : NatMap ℕ). get m account) first.parents ∙ get-remove_other (parents_in store) payer account not_payer

    same_root : root_in store' ≡ root_in store
    same_root = last.root ∙ first.root

    -- all other accounts have the parts that they had
    rest : (account : ℕ) → account ≢ payer → account ≢ reserve → account ≢ head → part account store' ≡ part account store
    rest account not_payer not_reserve not_head = last.others account not_reserve not_head ∙ first.others account not_payer not_head

    leaves : Leaves store roles store' (λ owner. Owns store roles owner head ⊎ IsOf i owner)
    leaves = record {
      stays = λ owner account other owns regions.
          let not_head : account ≢ head = λ e. other (inl (subst (Owns store roles owner) e owns)) in
          let not_payer : account ≢ payer = λ e. other (inr (inl (pays_alone core i payer pays owner (subst (Owns store roles owner) e owns)))) in
          let not_reserve : account ≢ reserve = λ e. other (inr (inr (core.apart owner (ReserveAt i) reserve (subst (Owns store roles owner) e owns) has_reserve))) in
          let own = rest account not_payer not_reserve not_head in
          record {
            own = own;
            held = ap (λ p. holding (share_in p regions.heap regions.tags)) own;
            parent = same_parent account not_payer not_reserve;
            leaf = λ leaf child is. leaf child (was_child child account is);
          };
      ram = ram;
      caps = caps;
    }

    no_session : (k id : ℕ) → Touched (SessionAt k id) → ⊥
    no_session k id touched = elim touched [ inl owns ↦ session_no_init core k id head owns head_inits | inr its ↦ no_session_of i k id its ]

    other_place : (k : ℕ) → k ≢ i → (IsInitOf (roles k) head → ⊥) → Touched (Place k) → ⊥
    other_place k other no_init touched = elim touched [
      | inl owns ↦ elim head_inits [
        | inl root ↦ not_place k (core.apart Init (Place k) head root owns)
        | inr its ↦ no_init (subst (λ n. IsInitOf (roles n) head) (same_place its.0 k (core.apart (Place its.0) (Place k) head (init_pays (roles its.0) head its.1) owns)) its.1)
      ]
      | inr its ↦ no_place_of i k other its
    ]

    other_reserve : (k : ℕ) → k ≢ i → Touched (ReserveAt k) → ⊥
    other_reserve k other touched = elim touched [
      | inl owns ↦ reserve_no_init core k head owns head_inits
      | inr its ↦ no_reserve_of i k other its
    ]

    head_open : IsOpenIn store' head
    head_open = open_in_part head store' (ap (λ (p : Part). is_some p.account) last.raised_one)

    -- a role that isn't the init follows, and so does the init
    follows_but : (k : ℕ) → k ≢ i → (IsInitOf (roles k) head → ⊥) → Follows store (roles k) store' (roles k)
    follows_but k other no_init = role_left leaves k (no_session k) core (other_place k other no_init) (other_reserve k other) (λ server id _ _ _. no_session server id)

    follows : OthersFollow i store roles store' roles
    follows k other = elim head_inits [
      | inl root ↦ follows_but k other (λ its. not_place k (core.apart Init (Place k) head root (init_pays (roles k) head its)))
      | inr its ↦ elim (cases_eq k its.0) [
        | inl at ↦ init_role_follows (roles k) head (subst (λ n. IsInitOf (roles n) head) (sym at) its.1) head_open
        | inr apart ↦ follows_but k other (λ one. apart (same_place k its.0 (core.apart (Place k) (Place its.0) head (init_pays (roles k) head one) (init_pays (roles its.0) head its.1))))
      ]
    ]

    same_rows : RowsStay store roles store' roles'
    same_rows = rows_kept components i after store store' (ap (rows_in store') is_gone ∙ sym (rows_of_script store (roles i) calls)) (λ k _. rows_left leaves k (no_session k))

    -- there is room after one close, and after the other
    room_between : HasRoom core.heads between
    room_between = room_after_exit core.heads payer head store between first is_head closes.caps below_head core.room

    room_last : HasRoom core.heads store'
    room_last =
        let below : IsChildIn between reserve head = ap (λ (m : NatMap ℕ). get m reserve) first.parents ∙ get-remove_other (parents_in store) payer reserve reserve_apart ∙ reserve_below in
        room_after_exit core.heads reserve head between store' last is_head (caps ∙ sym closes.caps) below room_between

    -- each init's account but that one's has the part that it had
    inits_rest : (account : ℕ) → IsInits store roles account → account ≢ head → part account store' ≡ part account store
    inits_rest account its not_head =
        rest account (λ e. script_inits core i payer pays calls (subst (IsInits store roles) e its)) (λ e. reserve_no_init core i reserve has_reserve (subst (IsInits store roles) e its)) not_head

    root_open : IsOpenIn store' (root_in store)
    root_open = elim (cases_eq (root_in store) head) [
      | inl at ↦ subst (IsOpenIn store') (sym at) head_open
      | inr other ↦ open_in_part (root_in store) store' (ap (λ (p : Part). is_some p.account) (inits_rest (root_in store) (inl refl) other) ∙ part_open (root_in store) store core.init)
    ]

    changes : ChangesCore core.heads i 0 0 store roles store' roles'
    changes = record {
      script = calls;
      others = λ k other. subst (Follows store (roles k) store') (sym (role_kept components i after k other)) (follows k other);
      sound = subst (IsSoundRole store') (sym is_gone) tt;
      pays = λ account its. absurd (subst (λ r. Pays r account) is_gone its);
      reserve = λ account is. absurd (none-some account (sym (ap reserve_in is_gone) ∙ is));
      reserved = λ account is. absurd (none-some account (sym (ap reserve_in is_gone) ∙ is));
      rows = λ server id _. ap (λ (m : NatMap (Row Labelled)). get m id) (same_rows server);
      row = inl (ap (λ (m : NatMap (Row Labelled)). get m 0) (same_rows 0));
      named = subst (NamesItsSessions (rows_at store' roles')) (sym is_gone) (names_none (rows_at store' roles') AGone refl);
      held = λ child parent its is.
          absurd (alone_leaf child (was_child child parent is ∙ ap Some (sym (pays_is (get_or components i d).role parent (subst (λ r. Pays r parent) is_caller its)))));
      placed = subst (HasPlaces (sessions_in store' roles') store') (sym is_gone) tt;
      init = root_open;
      root = same_root;
      children = λ k account its still.
          same_parent account
          (λ e. absurd (subst (λ r. Pays r account) is_gone (subst (λ n. Pays (roles' n) account) (same_place k i (pays_alone core i payer pays (Place k) (subst (Pays (roles k)) e its))) still)))
          (λ e. no_reserve_place k i (core.apart (Place k) (ReserveAt i) reserve (subst (Pays (roles k)) e its) has_reserve));
      parents = λ child parent is. inr (was_child child parent is);
      room = room_last;
    }

    same_faces : SameFaces components components'
    same_faces = face_set components i after d (λ j. record {
      label = (get_or components i d).name.items;
      kind = sym (kind_of_script (get_or components i d).role is_script) j;
      offer = sym (offer_of_script (get_or components i d).role is_script) j;
    })

    pub core_alone : IsCore store' components'
    core_alone = core_after core changes

    pub homes_alone : ParentsStay store components store' components'
    homes_alone places = homes_after core changes places

    pub leads_alone : RoutesStay store components store' components'
    leads_alone places leads = same_leads components components' same_faces store store' places leads (homes_after core changes places)

    -- its init gains the limits of its account and of its reserve
    head_gains : let own = account_of (part payer store) in let more = amounts_in (part reserve store) in
        account_in store' head ≡ raised (account_in store head) (own.ram_limit + more.ram) (own.caps_limit + more.caps)
    head_gains =
        let beside : reserve ≢ head = λ e. reserve_no_init core i reserve has_reserve (subst (IsInits store roles) (sym e) head_inits) in
        let still : part reserve between ≡ part reserve store = first.others reserve reserve_apart beside in
        let own = account_of (part payer store) in
        let more = amounts_in (part reserve store) in
        sym (account_of-part head store') ∙ ap account_of last.raised_one
        ∙ (λ j. raised (account_of (first.raised_one j)) (account_of (still j)).ram_limit (account_of (still j)).caps_limit)
        ∙ raised_twice (account_of (part head store)) own.ram_limit own.caps_limit more.ram more.caps
        ∙ ap (λ a. raised a (own.ram_limit + more.ram) (own.caps_limit + more.caps)) (account_of-part head store)

    pub world_alone : (places : Places) → AreBelowParents places store components →
        let world = world_of places store components in let s = state_at world.states i in let number = (entry_at world.entries i).home in
        world_of places store' components' ≡ record world {
          inits = set world.inits number (raised (init_at world.inits number) (s.account.ram_limit + s.reserve.ram) (s.account.caps_limit + s.reserve.caps));
          states = set world.states i exited_state;
        }
    world_alone places homes =
        let S = sessions_in store roles in
        let world = world_of places store components in
        let s = state_at (world_of places store components).states i in
        let state : state_at (world_of places store components).states i ≡ own S store (get_or components i d) = get_or-map (own S store) components i d nothing here in
        let account = ap (λ (x : OwnState). x.account) state ∙ account_of_script S store (get_or components i d).role is_script in
        let held = ap (λ (x : OwnState). x.reserve) state ∙ reserve_of_script S store (get_or components i d).role is_script in
        let number : (entry_at (entries_of places components) i).home ≡ (places i).home = ap (λ (e : Entry). e.home) (entries_at places components i d here) in
        let inits = inits_gain components components' core changes same_faces here d head payer _ _ inits_rest head_gains below_head (places i).home (homes i payer pays) in
        world_changed components components' core changes same_faces here d places
        ∙ (λ j. record (world_of places store components) {
          inits = inits j;
          states = set (world_of places store components).states i (own_in (sessions_in store' roles') store' (is_gone j));
        })
        ∙ (λ j. record (world_of places store components) {
          inits = set world.inits (sym number j) (raised (init_at world.inits (sym number j)) ((sym account j).ram_limit + (sym held j).ram) ((sym account j).caps_limit + (sym held j).caps));
          states = set world.states i exited_state;
        })
