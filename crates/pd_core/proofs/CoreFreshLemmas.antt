-- A core of fresh parts is sound, and its own states are the start states.
use Rattle.std.proofs.Common.{◌≡◌, ℕ, ◌+◌, ◌*◌, ◌<◌, ◌≤◌, Option, Some, is_some, List, [], ◌∷◌, inl, inr, get_or, length, map, subst, refl, sym, ap, ◌∙◌, arith, nat_cmp, true≢false}
use Rattle.std.specs.Prelude.{IfSome, IsSome, None}
use Rattle.std.proofs.lemmas.Option.{none-some}
use Rattle.std.specs.Option.{option_map, unwrap_or}
use Rattle.std.specs.List.{All, enumerate_from}
use Rattle.std.specs.FinMap as finmap
use Rattle.std.specs.FinMap.{get, empty, len}
use Rattle.std.proofs.lemmas.List.Elements.{All-head, All-tail}
use Rattle.own_model.specs.Amounts.{Amounts}
use Rattle.own_model.specs.Reserve.{no_reserve}
use Rattle.own_model.specs.NatMap.{NatMap, picked, total}
use Rattle.own_model.specs.Account.{Account, opened}
use Rattle.own_model.specs.Moved.{moved_up}
use Rattle.own_model.specs.Limits.{caps_with, caps_limits}
use Rattle.own_model.specs.Region.{Region}
use Rattle.own_model.specs.Sliced.{sliced_header}
use Rattle.own_model.specs.StartList.{StartEntry, Kind, start_state}
use Rattle.own_model.specs.StartList.Kind.{Script as AScriptKind}
use Rattle.own_model.specs.Transcript.{nobody}
use Rattle.own_model.proofs.NatMapMovedLemmas.{same_moved, get-moved_up, get-moved_up_below}
use Rattle.own_model.proofs.NatMapLemmas.{same, get-empty, some_of, none_in_empty, picked-empty}
use Rattle.own_model.proofs.StepSoundLemmas.{start_sound}
use Rattle.own_model.proofs.StepUseLemmas.{start_uses}
use Rattle.own_model.proofs.Totals.{total-empty, total_at_le}
use Rattle.trade_base.specs.declared.id.AccountId.{AccountId}
use Rattle.own_model.specs.Session.{Labelled}
use Rattle.server_frame.specs.Frame.{Row}
use Rattle.cap_space.specs.declared.cap.Cap.{Cap}
use Rattle.dataspace_core.specs.Store.{Store, Part, part, root_in, accounts_in, account_of, IsOpenIn, ram_limits_in, caps_limits_in}
use Rattle.dataspace_core.specs.Share.{Share}
use Rattle.dataspace_core.proofs.PartLaws.{open_in_part}
use Rattle.own_model.specs.Use.{heap_count}
use Rattle.heap_core.specs.Heap.{payer_of as heap_payer, HasNoBlocks as HasNoHeapBlocks}
use Rattle.heap_core.specs.Theorems.{IsMapOf}
use Rattle.heap_core.proofs.StayLemmas.{empty_map as empty_heap_map}
use Rattle.sliced_heap.specs.Heap.{payer_of as sliced_payer, share_at, MapsMemory, HasNoBlocks}
use Rattle.sliced_heap.specs.Sliced.{block_regions, payload_of, sliced_of}
use Rattle.server_kinds.specs.Host.{table_of}
use Rattle.server_kinds.proofs.HostLaws.{new_works, new_rows, still_new}
use Rattle.pd_core.specs.declared.component.Component.{Component}
use Rattle.pd_core.specs.declared.component.Role.{Role}
use Rattle.own_model.specs.OwnHeap.{no_heap}
use Rattle.pd_core.specs.declared.component.Role.TheVariants.{Script as AScript, Server as AServer, Init as AnInit, Gone as AGone}
use Rattle.pd_core.specs.declared.script.Script.{Script}
use Rattle.sliced_heap.proofs.HeapLaws.{empty_map}
use Rattle.pd_core.specs.Own.{Sessions, no_sessions, own_of, own_at, part_at, own_heap_at, sliced_at, object_of, regions_of, selector_of, Lent, lent_in, no_lent}
use Rattle.pd_core.specs.Sound.{buffer_at, rpc_weight, session_weight, IsLawful, IsSoundScript}
use Rattle.pd_core.specs.Component.{Place, Pays, amounts_in, with_reserve, reserve_in, reserve_of, reserve_held, entry_of, kind_of, payer_in, payer_of, caps_in, rows_in, tables_in, NamesItsSessions, HasPlaces, HasNewHeap, HasNewHeaps, own_in, own, IsSoundRole}
use Rattle.pd_core.specs.Core.{Heads, Places, Roles, roles_of, rows_at, sessions_in, inits_of, world_of, HaveOneOwner, IsBelowHead, IsCore}
use Rattle.pd_core.specs.Core.Owner.{Init, Place as PlaceAt, ReserveAt, SessionAt}
use Rattle.pd_core.proofs.ScriptNameLemmas.{cap_named}
use Rattle.pd_core.proofs.ComponentLemmas.{pays_is}
use Rattle.pd_core.proofs.CoreHeldLemmas.{names_none}
use Rattle.pd_core.proofs.CoreWorldLemmas.{all_roles, place_of, role_at, one_of}
use Rattle.std.proofs.lemmas.Bool.{cases_lt}
use Rattle.pd_core.specs.Fresh.{Has, IsFreshReserve, account_at, start_of, opened_part, started_world, AreEmpty, IsNewServer, IsFresh, AreFresh}

-- a start of a component of this kind, with these limits and this reserve
abbrev beginning : Kind → ℕ → ℕ → Amounts → StartEntry
beginning kind ram caps reserve = record { entry = record nobody { kind = kind }; ram = ram; caps = caps; reserve = reserve }

-- who has nothing has the own state of a start
own_opened : (L : Lent) (sessions : Sessions) (ram caps : ℕ) → own_of L sessions (opened_part ram caps) empty empty no_heap empty ≡ start_state (beginning AScriptKind ram caps no_reserve)
unfolding own_of regions_of
own_opened L sessions ram caps =
    let selectors = picked-empty (object_of L sessions (opened_part ram caps)) in
    let regions = picked-empty (λ (region : Region). option_map (λ (other : ℕ). record region { of = other }) (selector_of empty region.of)) in
    λ j. record { account = (start_state (beginning AScriptKind ram caps no_reserve)).account; reserve = no_reserve; selectors = selectors j; regions = regions j; heap = no_heap; sliced = empty; gone = (start_state (beginning AScriptKind ram caps no_reserve)).gone }

-- where no block is, no payload stands
no_payloads : (share : Share) → HasNoBlocks share → sliced_of share ≡ empty
unfolding sliced_of
no_payloads share none =
    let regions : block_regions share ≡ empty = same _ _ (λ s. none s ∙ sym (get-empty s)) in
    ap (λ m. moved_up sliced_header (picked (payload_of share.part.spaces) m)) regions
    ∙ ap (moved_up sliced_header) (picked-empty (payload_of share.part.spaces))
    ∙ same_moved sliced_header (moved_up sliced_header empty) empty (λ q. get-moved_up sliced_header empty q ∙ get-empty q ∙ sym (get-empty (q + sliced_header)))
    (λ q low. get-moved_up_below sliced_header empty q low ∙ sym (get-empty q))

module _ (store : Store) (ram caps : ℕ) where
  -- a script before its first call
  module _ (script : Script) (unused : part_at store script ≡ opened_part ram caps) (more : ℕ) (fresh : AreEmpty store (caps + more) script.caps script.regions)
      (heaps : HasNewHeaps script) where
    -- its account is open
    opens : IsOpenIn store script.account.0
    opens = open_in_part script.account.0 store (subst (λ (p : Part). IsSome p.account) (sym unused) refl)

    -- the map is one of the memory, and holds no block
    maps : MapsMemory store script.regions × ((account : ℕ) → HasNoBlocks (share_at account store script.regions))
    maps = empty_map store script.regions fresh.no_heap fresh.pages fresh.heap_most

    -- it is one for a heap, and holds none of its blocks
    heap_maps : IsMapOf store script.regions × ((account : ℕ) → HasNoHeapBlocks (share_at account store script.regions))
    heap_maps = empty_heap_map store script.regions fresh.no_heap fresh.pages fresh.heap_most fresh.few

    -- nor does the own state have any
    no_heap_yet : own_heap_at store script ≡ no_heap
    no_heap_yet = heaps.heap.empty (share_at (heap_payer script.heap) store script.regions) (heap_maps.1 (heap_payer script.heap))

    no_blocks : sliced_at store script ≡ empty
    no_blocks = no_payloads (share_at script.account.0 store script.regions) (maps.1 script.account.0)

    -- the own state is that of a start
    script_unused : (sessions : Sessions) → own_at sessions store script ≡ start_state (beginning AScriptKind ram caps no_reserve)
    script_unused sessions =
        (λ i. own_of (lent_in store) sessions (unused i) (fresh.no_caps i) (fresh.no_regions i) (no_heap_yet i) (no_blocks i)) ∙ own_opened (lent_in store) sessions ram caps

    -- its limit is among all limits
    within : (account_of (part_at store script)).ram_limit ≤ script.regions.pages * 4096
    unfolding part
    within =
        let has = some_of (get (accounts_in store) script.account.0) opens in
        omega (arith, fresh.pages, total_at_le (λ (a : Account). a.ram_limit) (accounts_in store) script.account.0 has.0 has.1, ap (λ (o : Option Account). (unwrap_or o (opened 0 0)).ram_limit) has.1)

    -- the script is sound where nothing is used
    script_sound : IsSoundScript store script
    script_sound =
        let few : len script.caps.caps ≡ 0 = ap (λ m. len m) fresh.no_caps ∙ finmap.len-empty nat_cmp Cap in
        let none : len (part_at store script).spaces ≡ 0 = ap (λ (p : Part). len p.spaces) unused ∙ finmap.len-empty nat_cmp (List ℕ) in
        let blocks : len (sliced_at store script) ≡ 0 = ap (λ m. len m) no_blocks ∙ finmap.len-empty nat_cmp (List ℕ) in
        let heap : heap_count (own_heap_at store script) ≡ 0 = omega (arith, ap heap_count no_heap_yet, finmap.len-empty nat_cmp ℕ) in
        let sessions : total session_weight script.caps.caps ≡ 0 = ap (total session_weight) fresh.no_caps ∙ total-empty session_weight in
        let weight : total rpc_weight script.caps.caps ≡ 0 = ap (total rpc_weight) fresh.no_caps ∙ total-empty rpc_weight in
        let limit = ap (λ p. (account_of p).caps_limit) unused in
        record {
          own = record {
            named = record {
              there = λ q ds names. absurd (none_in_empty _ fresh.no_caps q _ names);
              one = λ s t key first second. absurd (none_in_empty _ fresh.no_caps s _ (cap_named (get script.caps.caps s) key first).1);
            };
            paid = record { is_open = ap (λ (p : Part). is_some p.account) unused; named = omega (arith, few, blocks, heap); spare = omega (arith, none, weight); placed = omega (arith, limit, sessions, fresh.places) };
            ram = within;
            attached = λ start region there. absurd (none_in_empty _ fresh.no_regions start region there);
            most = fresh.most;
            blocks = record {
              held = λ start region there. absurd (none_in_empty _ fresh.no_heap start region there);
              unnamed = λ start q region ds there names. absurd (none_in_empty _ fresh.no_heap start region there);
            };
            lawful = λ open_sessions ready. subst IsLawful (sym (script_unused open_sessions))
                (record { sound = start_sound (beginning AScriptKind ram caps no_reserve); uses = start_uses (beginning AScriptKind ram caps no_reserve); within = record { ram = omega arith; caps = omega arith } });
          };
          lent = λ s q key names. absurd (none-some (q, key) (sym (ap (λ (m : NatMap Cap). buffer_at (get m s)) fresh.no_caps ∙ ap buffer_at (get-empty s)) ∙ names));
          heaps = record {
            heap = heaps.heap.sound store script.regions (subst (IsOpenIn store) (sym heaps.heap_pays) opens) heap_maps.0 (heap_maps.1 (heap_payer script.heap));
            sliced = heaps.sliced store script.regions (subst (IsOpenIn store) (sym heaps.sliced_pays) opens) maps.0 (maps.1 (sliced_payer script.sliced));
            heap_pays = heaps.heap_pays;
            sliced_pays = heaps.sliced_pays;
            all = λ start region there. absurd (none_in_empty _ fresh.no_heap start region there);
          };
        }

  -- the same of a role
  record RoleIsFresh (role : Role) : Type 0 where
    sound : IsSoundRole store role
    state : (sessions : Sessions) → own_in sessions store role ≡ start_state (beginning (kind_of role) ram caps (reserve_held store role))
    no_caps : caps_in role ≡ empty
    no_rows : rows_in store role ≡ empty
    places : (sessions : Sessions) → HasPlaces sessions store role

  -- a server's account is all that it has
  server_state : (account : AccountId) → part account.0 store ≡ opened_part ram caps → own_of no_lent no_sessions (part account.0 store) empty empty no_heap empty ≡ start_state (beginning AScriptKind ram caps no_reserve)
  server_state account unused = ap (λ p. own_of no_lent no_sessions p empty empty no_heap empty) unused ∙ own_opened no_lent no_sessions ram caps

  role_fresh : (role : Role) → part (payer_in role) store ≡ opened_part ram caps → IfSome (tables_in role) (λ tables. AreEmpty store (caps + (reserve_held store role).caps) tables.0 tables.1) → HasNewHeap role → IsNewServer store role →
      RoleIsFresh role
  role_fresh (AScript script) unused fresh heap new =
      let has = amounts_in (part script.reserve.0 store) in
      record {
        sound = script_sound script unused has.caps fresh heap;
        state = λ sessions. ap (with_reserve has) (script_unused script unused has.caps fresh heap sessions);
        no_caps = fresh.no_caps;
        no_rows = refl;
        places = λ sessions. omega (arith, ap caps_limits (script_unused script unused has.caps fresh heap sessions), total-empty caps_with, fresh.places);
      }
  role_fresh (AServer account host) unused fresh heap new = record {
    sound = record {
      is_open = subst (λ (p : Part). IsSome p.account) (sym unused) refl;
      works = new_works store host new;
      places = new.places;
    };
    state = λ sessions. server_state account unused;
    no_caps = refl;
    no_rows = new_rows store host new;
    places = λ sessions. tt;
  }
  role_fresh (AnInit account) unused fresh heap new = record {
    sound = open_in_part account.0 store (subst (λ (p : Part). IsSome p.account) (sym unused) refl);
    state = λ sessions. refl;
    no_caps = refl;
    no_rows = refl;
    places = λ sessions. tt;
  }
  role_fresh AGone unused fresh heap new = absurd heap

-- a fresh component is sound, and its own state is that of its start
module _ (heads : Heads) (store : Store) (component : Component) (fresh : IsFresh heads store component) where
  -- as its role is
  role : RoleIsFresh store (account_at store component).ram_limit (account_at store component).caps_limit component.role
  role = role_fresh store _ _ component.role fresh.unused fresh.tables fresh.heap fresh.server

  -- its own state is that of its start
  fresh_state : (place : Place) (sessions : Sessions) → own sessions store component ≡ start_state (start_of place store component)
  fresh_state place = role.state

  -- it names no session
  fresh_named : (rows : ℕ → NatMap (Row Labelled)) → NamesItsSessions rows component.role
  fresh_named rows = names_none rows component.role role.no_caps

  -- there is a place for each capability of its budget
  fresh_places : (sessions : Sessions) → HasPlaces sessions store component.role
  fresh_places = role.places

-- the entries are those of the starts
fresh_entries : (places : Places) (store : Store) (components : List (ℕ × Component)) →
    map (λ c. entry_of (places c.0) c.1) components ≡ map (λ (start : StartEntry). start.entry) (map (λ c. start_of (places c.0) store c.1) components)
fresh_entries places store [] = refl
fresh_entries places store (c ∷ rest) = ap (λ entries. entry_of (places c.0) c.1 ∷ entries) (fresh_entries places store rest)

-- and the own states are, from any place on
fresh_states : (places : Places) (sessions : Sessions) (heads : Heads) (store : Store) (n : ℕ) (components : List Component) → All (IsFresh heads store) components →
    map (own sessions store) components ≡ map start_state (map (λ c. start_of (places c.0) store c.1) (enumerate_from n components))
fresh_states places sessions heads store n [] fresh = refl
fresh_states places sessions heads store n (c ∷ rest) fresh =
    let first = fresh_state heads store c (All-head (IsFresh heads store) c rest fresh) (places n) sessions in
    let others = fresh_states places sessions heads store (n + 1) rest (All-tail (IsFresh heads store) c rest fresh) in
    λ j. first j ∷ others j

module _ (store : Store) (components : List Component) (fresh : AreFresh store components) where
  open fresh use {heads, parts}

  abbrev roles : Roles
  roles = roles_of components

  -- each is fresh
  fresh_at : (k : ℕ) → k < length components → (d : Component) → RoleIsFresh store (account_at store (get_or components k d)).ram_limit (account_at store (get_or components k d)).caps_limit (get_or components k d).role
  fresh_at k h d = role heads store (get_or components k d) (parts.each k d h)

  -- no session is open
  none_open : (server id : ℕ) → get (rows_at store roles server) id ≡ None
  none_open server id =
      ap (λ (m : NatMap (Row Labelled)). get m id) (all_roles (λ _ r. rows_in store r ≡ empty) components (λ _. refl) (λ k h d. (fresh_at k h d).no_rows) server) ∙ get-empty id

  no_row : {X : Type 0} (server id : ℕ) (row : Row Labelled) → get (rows_at store roles server) id ≡ Some row → X
  no_row server id row there = absurd (none-some row (sym (none_open server id) ∙ there))

  -- who pays stands at a place
  payer_at : (k account : ℕ) → Pays (roles k) account → (k < length components) × ((d : Component) → payer_of (get_or components k d) ≡ account)
  payer_at k account pays =
      let within = place_of components k (λ none. subst (λ r. Pays r account) none pays) in
      (within, λ d. pays_is (get_or components k d).role account (subst (λ r. Pays r account) (role_at components k d within) pays))

  -- so does who has a reserve
  reserve_where : (k account : ℕ) → reserve_in (roles k) ≡ Some account → (k < length components) × ((d : Component) → reserve_of (get_or components k d) ≡ Some account)
  reserve_where k account is =
      let within = place_of components k (λ none. none-some account (ap reserve_in (sym none) ∙ is)) in
      (within, λ d. ap reserve_in (sym (role_at components k d within)) ∙ is)

  -- an account of a place is its component's own or that of its reserve
  abbrev HasAt : ℕ → ℕ → Type 0
  HasAt k account = (k < length components) × ((d : Component) → Has (get_or components k d) account)

  pays_at : (k account : ℕ) → Pays (roles k) account → HasAt k account
  pays_at k account pays = let at = payer_at k account pays in (at.0, λ d. inl (at.1 d))

  keeps_at : (k account : ℕ) → reserve_in (roles k) ≡ Some account → HasAt k account
  keeps_at k account is = let at = reserve_where k account is in (at.0, λ d. inr (at.1 d))

  -- no two places share one
  same_where : (j k account : ℕ) → HasAt j account → HasAt k account → j ≡ k
  same_where j k account one two = elim (cases_lt j k) [
    | inl before ↦ let d = one_of components k two.0 in absurd (parts.apart j k d before two.0 account (one.1 d) (two.1 d))
    | inr after ↦ elim (cases_lt k j) [
      | inl before ↦ let d = one_of components j one.0 in absurd (parts.apart k j d before one.0 account (two.1 d) (one.1 d))
      | inr same ↦ omega (arith, after, same)
    ]
  ]

  no_init : (k account : ℕ) → root_in store ≡ account → Pays (roles k) account → ⊥
  no_init k account root pays =
      let at = payer_at k account pays in
      let d = one_of components k at.0 in
      (parts.each k d at.0).not_init (at.1 d ∙ sym root)

  -- a reserve is fresh
  reserve_fresh : (k account : ℕ) → reserve_in (roles k) ≡ Some account → IsFreshReserve store (payer_in (roles k)) account
  reserve_fresh k account is =
      let at = reserve_where k account is in
      let d = one_of components k at.0 in
      subst (λ n. IsFreshReserve store n account) (ap payer_in (sym (role_at components k d at.0)))
      (subst (λ o. IfSome o (λ reserve. IsFreshReserve store (payer_of (get_or components k d)) reserve)) (at.1 d) (parts.each k d at.0).reserve)

  -- no reserve is a component's own account
  not_both : (j k account : ℕ) → Pays (roles j) account → reserve_in (roles k) ≡ Some account → ⊥
  not_both j k account pays is =
      let same = same_where j k account (pays_at j account pays) (keeps_at k account is) in
      let at = payer_at k account (subst (λ n. Pays (roles n) account) same pays) in
      let d = one_of components k at.0 in
      (reserve_fresh k account is).apart (sym (at.1 d) ∙ ap payer_in (sym (role_at components k d at.0)))

  apart : HaveOneOwner store roles
  apart Init Init account first second = refl
  apart Init (PlaceAt k) account first second = absurd (no_init k account first second)
  apart (PlaceAt j) Init account first second = absurd (no_init j account second first)
  apart (PlaceAt j) (PlaceAt k) account first second = ap PlaceAt (same_where j k account (pays_at j account first) (pays_at k account second))
  apart (ReserveAt j) (ReserveAt k) account first second = ap ReserveAt (same_where j k account (keeps_at j account first) (keeps_at k account second))
  apart (PlaceAt j) (ReserveAt k) account first second = absurd (not_both j k account first second)
  apart (ReserveAt j) (PlaceAt k) account first second = absurd (not_both k j account second first)
  apart Init (ReserveAt k) account first second = absurd ((reserve_fresh k account second).not_init (sym first))
  apart (ReserveAt k) Init account first second = absurd ((reserve_fresh k account first).not_init (sym second))
  apart (SessionAt server id) other account first second = absurd (none-some account (sym (ap (option_map (λ (r : Row Labelled). r.key)) (none_open server id)) ∙ first))
  apart one (SessionAt server id) account first second = absurd (none-some account (sym (ap (option_map (λ (r : Row Labelled). r.key)) (none_open server id)) ∙ second))

  -- fresh components are a sound core
  pub fresh_core : IsCore store components
  fresh_core = record {
    heads = heads;
    root_head = parts.root_head;
    inits = parts.inits;
    init = parts.init;
    sound = all_roles (λ _ r. IsSoundRole store r) components (λ _. tt) (λ k h d. (fresh_at k h d).sound);
    children = λ k account pays.
        let at = payer_at k account pays in
        let d = one_of components k at.0 in
        subst (IsBelowHead store heads) (at.1 d) (parts.each k d at.0).child;
    reserved = λ k account is. (reserve_fresh k account is).is_reserve;
    apart = apart;
    clients = λ server id row there. no_row server id row there;
    named = all_roles (λ _ r. NamesItsSessions (rows_at store roles) r) components
        (λ _. names_none (rows_at store roles) _ refl)
        (λ k h d. fresh_named heads store _ (parts.each k d h) (rows_at store roles));
    placed = all_roles (λ _ r. HasPlaces (sessions_in store roles) store r) components (λ _. tt) (λ k h d. fresh_places heads store _ (parts.each k d h) (sessions_in store roles));
    held = λ child parent is inner. absurd (true≢false (sym (parts.outer child parent is) ∙ inner));
    room = fresh.room;
  }

  -- their world is the one that starts with them
  pub fresh_world : (places : Places) → world_of places store components ≡ started_world places store components
  fresh_world places =
      let entries = fresh_entries places store (enumerate_from 0 components) in
      let states = fresh_states places (sessions_in store roles) heads store 0 components parts.each in
      λ j. record { entries = entries j; inits = inits_of store components; states = states j }

-- a new server is still new while other accounts are opened
module _ (store store' : Store) (ram : ram_limits_in store' ≡ ram_limits_in store) (caps : caps_limits_in store' ≡ caps_limits_in store) where
  pub new_server_stays : (role : Role) → IsNewServer store role → IsNewServer store' role
  new_server_stays (AScript script) new = tt
  new_server_stays (AServer account host) new = still_new store store' (table_of host).sessions (table_of host).map ram caps new
  new_server_stays (AnInit key) new = tt
  new_server_stays AGone new = tt
