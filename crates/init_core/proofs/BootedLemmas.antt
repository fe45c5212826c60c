-- A boot before the first entry, and after the last.
use Rattle.std.proofs.Common.{◌≡◌, ℕ, true, false, inl, inr, ◌==◌, ◌+◌, ◌*◌, ◌≤◌, List, [], ◌∷◌, is_some, length, get_or, map, take, Option, Some, None, subst, refl, sym, ap, ◌∙◌, arith}
use Rattle.std.specs.List.{enumerate_from, slice_get}
use Rattle.std.specs.FinMap.{get, empty}
use Rattle.std.specs.Option.{option_map, option_and_then, unwrap_or}
use Rattle.std.proofs.lemmas.Bool.{eqb-true, eq-eqb}
use Rattle.std.proofs.lemmas.List.{take_all, drop_all, length-map}
use Rattle.std.proofs.lemmas.Option.{none-some, slice_get-get_or, unwrap_or-slice_get, slice_get-map}
use Rattle.trade_base.specs.declared.id.AccountId.{AccountId}
use Rattle.own_model.specs.Account.{Account, opened}
use Rattle.own_model.specs.Listed.{Listed, ListedEntry, most_lists, offer_at, offer_in, route_within, server_at, start_of, start_list_of}
use Rattle.own_model.specs.Listed.Binary.{Script}
use Rattle.own_model.specs.Offer.{Offer}
use Rattle.own_model.specs.Routes.{ServerAt, provider}
use Rattle.own_model.specs.StartList.{AllCovered, Boots, inits_keep, start_state}
use Rattle.own_model.specs.World.{start_world}
use Rattle.own_model.proofs.StartListedLemmas.{routes_lead}
use Rattle.own_model.proofs.NatMapLemmas.{get-empty, get-insert_same}
use Rattle.own_model.proofs.Totals.{total-insert_new, total-empty}
use Rattle.dataspace_core.specs.Store.{Store, fresh_store, root_in, account_in, accounts_in, IsOpenIn, parents_in, room_in, ram_limits_in, caps_limits_in}
use Rattle.dataspace_core.proofs.RoomLaws.{room_at_first}
use Rattle.pd_core.specs.Component.{Pays, offer_of}
use Rattle.pd_core.specs.Core.{Places, IsInitOf, IsInits, inits_of, roles_of}
use Rattle.pd_core.specs.Fresh.{start_of as start_in, started_world, AreFresh}
use Rattle.pd_core.specs.SessionCalls.{Agrees}
use Rattle.pd_core.specs.SessionCalls.{server_at as server_at_place, offer_at as offer_at_place}
use Rattle.pd_core.specs.declared.component.Component.{Component}
use Rattle.init_core.specs.Boot.{HasStarted, places_at, place_of, to_come}
use Rattle.init_core.specs.Rows.{server_by_rows, places_in, rows_of}
use Rattle.init_core.proofs.RowLemmas.{places_listed}
use Rattle.list_parser.specs.Quota.{first_uncovered}
use Rattle.init_core.proofs.InitLemmas.{map_twice, within}
use Rattle.init_core.proofs.BootLemmas.{counted}

-- ---- before the first

-- without components the root alone is an init's
root_alone : (store : Store) (account : ℕ) → IsInits store (roles_of []) account → (account == root_in store) ≡ true
root_alone store account (inl own) = eq-eqb account (root_in store) (sym own)
root_alone store account (inr found) = absurd (omega (arith, within [] (λ role. IsInitOf role account) (λ h. h) found.0 found.1))

-- nothing has started in a memory that has just booted
pub nothing_yet : {list : Listed} {store : Store} {components : List Component} {keys : List AccountId} (root : AccountId) (pages caps places : ℕ) → pages ≡ list.pages → caps ≡ list.caps →
    store ≡ fresh_store (root_in store) pages caps (room_in store + 1) places → list.caps + length list.entries * 4 ≤ room_in store * 2 + 1 → components ≡ [] → root.0 ≡ root_in store → keys ≡ root ∷ [] →
    HasStarted list store components keys 0
nothing_yet {list} {store} {components} {keys} root pages caps places pages_is caps_is was enough none root_is first =
    let machine = opened (list.pages * 4096) list.caps in
    let booted = was ∙ (λ j. fresh_store (root_in store) (pages_is j) (caps_is j) (room_in store + 1) places) in
    let root_open : IsOpenIn store (root_in store) =
    ap (λ s. is_some (get (accounts_in s) (root_in store))) booted ∙ ap is_some (get-insert_same empty (root_in store) machine (root_in store) refl) in
    let init : account_in store (root_in store) ≡ machine =
    ap (λ s. account_in s (root_in store)) booted ∙ ap (λ o. unwrap_or o (opened 0 0)) (get-insert_same empty (root_in store) machine (root_in store) refl) in
    let nobody : (k : ℕ) → get (parents_in store) k ≡ None = λ k. ap (λ s. get (parents_in s) k) booted ∙ get-empty k in
    let begun : HasStarted list store [] (root ∷ []) 0 = record {
      heads = λ account. account == root_in store;
      parts = record {
        root_head = eq-eqb (root_in store) (root_in store) refl;
        inits = λ account is. inl (sym (eqb-true account (root_in store) is));
        init = root_open;
        outer = λ k p is. absurd (none-some p (sym (nobody k) ∙ is));
        each = λ k d h. absurd (omega (arith, h));
        apart = λ j k d before h. absurd (omega (arith, h));
      };
      are_heads = λ account is. root_alone store account is;
      there = λ k p is. absurd (none-some p (sym (nobody k) ∙ is));
      keys_are = ap (λ k. k ∷ []) root_is;
      entries = refl;
      states = refl;
      offers = refl;
      names = λ k d h. absurd (omega (arith, h));
      homes = λ i account pays. absurd (omega (arith, within [] (λ role. Pays role account) (λ h. h) i pays));
      inits = ap (λ a. inits_keep (a ∷ []) (start_list_of list).starts) (sym init);
      uncovered = ap (λ a. first_uncovered (a ∷ []) (start_list_of list).starts) (sym init);
      covered = λ all. subst (λ a. AllCovered (a ∷ []) (start_list_of list).starts) init all;
      room = omega (arith, enough);
      machine =
          let alone = total-insert_new (λ (a : Account). a.ram_limit) empty (root_in store) machine (get-empty (root_in store)) in
          ap ram_limits_in booted ∙ omega (arith, alone, total-empty (λ (a : Account). a.ram_limit));
      all_caps =
          let alone = total-insert_new (λ (a : Account). a.caps_limit) empty (root_in store) machine (get-empty (root_in store)) in
          ap caps_limits_in booted ∙ omega (arith, alone, total-empty (λ (a : Account). a.caps_limit));
    } in
    subst (λ (p : List Component × List AccountId). HasStarted list store p.0 p.1 0) (λ j. (sym none j, sym first j)) begun

-- ---- where routes lead

-- a server that offers this at a place
abbrev stands : ℕ → Offer → ServerAt
stands place kind = record { kind = kind; place = place }

nobody : ListedEntry
nobody = record { name = []; path = []; label = []; home = 0; binary = Script; ram = 0; caps = 0; provides = false; route = None; reserve = None; inner_route = [] }

of_entry : (entry : Option ListedEntry) → unwrap_or (option_map (λ (e : ListedEntry). offer_in e.binary) entry) None ≡ option_and_then (λ (e : ListedEntry). offer_in e.binary) entry
of_entry None = refl
of_entry (Some entry) = refl

module _ (entries : List ListedEntry) (components : List Component) (same : map offer_of components ≡ map (λ e. offer_in e.binary) entries) where
  -- a component offers what its entry says
  served : (child : ℕ) → offer_at_place components child ≡ offer_at entries child
  served child =
      ap (λ offers. get_or offers child None) same
      ∙ sym (unwrap_or-slice_get (map (λ e. offer_in e.binary) entries) child None) ∙ ap (λ found. unwrap_or found None) (slice_get-map (λ e. offer_in e.binary) entries child)
      ∙ of_entry (slice_get entries child)

  -- so a server of the list stands at its place
  served_there : (child : Option ℕ) →
      option_map (server_at_place components) (option_map (λ (server : ServerAt). server.place) (option_and_then (server_at entries) child)) ≡ option_map Some (option_and_then (server_at entries) child)
  served_there None = refl
  served_there (Some child) = served_at child (offer_at entries child) (served child) where
    served_at : (place : ℕ) (kind : Option Offer) → offer_at_place components place ≡ kind →
        option_map (server_at_place components) (option_map (λ (server : ServerAt). server.place) (option_map (stands place) kind)) ≡ option_map Some (option_map (stands place) kind)
    served_at place None is = refl
    served_at place (Some kind) is = ap (λ found. Some (option_map (stands place) found)) is

-- ---- after the last

module _ {list : Listed} {store : Store} {components : List Component} {keys : List AccountId} {count : ℕ} (so_far : HasStarted list store components keys count) (all : count ≡ length list.entries) where
  all_taken : take count list.entries ≡ list.entries
  all_taken = take_all count list.entries (omega (arith, all))

  none_to_come : to_come list count ≡ []
  none_to_come = drop_all count (start_list_of list).starts (omega (arith, all, length-map list.entries (start_of list)))

  -- the list boots
  pub boots : Boots (start_list_of list)
  boots = so_far.covered (subst (AllCovered (inits_of store components)) (sym none_to_come) tt)

  -- the parts are fresh, with room for the sessions to come
  pub all_fresh : AreFresh store components
  all_fresh = record { heads = so_far.heads; parts = so_far.parts; room = room_at_first so_far.heads store so_far.parts.outer so_far.there (omega (arith, all, so_far.room, so_far.all_caps)) }

  -- it is the world that starts with the list
  pub booted : started_world (places_at list) store components ≡ start_world (start_list_of list)
  booted =
      let entries = map_twice (λ c. start_in (places_at list c.0) store c.1) (λ start. start.entry) (enumerate_from 0 components)
      ∙ so_far.entries ∙ ap (map (λ e. (start_of list e).entry)) all_taken ∙ sym (map_twice (start_of list) (λ start. start.entry) list.entries) in
      let states = so_far.states ∙ ap (map (λ e. start_state (start_of list e))) all_taken ∙ sym (map_twice (start_of list) start_state list.entries) in
      let inits = so_far.inits ∙ ap (inits_keep (inits_of store components)) none_to_come in
      λ j. record { entries = entries j; inits = sym inits j; states = states j }

  -- where the list's rows lead to, a server stands
  pub agrees : Agrees (places_in (rows_of list)) (server_by_rows (rows_of list)) store components
  agrees = subst (λ (places : Places). Agrees places (server_by_rows (rows_of list)) store components) (sym (places_listed list)) (record {
    names = so_far.names;
    each = λ i service label within.
        let entry = get_or list.entries i nobody in
        let here = slice_get-get_or list.entries i nobody (omega (arith, within, all, counted so_far (omega (arith, all)))) in
        let led : provider (places_at list i).routes service label ≡ option_and_then (server_at list.entries) (route_within most_lists list entry service label) =
        ap (λ found. provider (place_of list found).routes service label) here ∙ routes_lead most_lists list entry service label in
        ap (λ (server : Option ServerAt). option_map (server_at_place components) (option_map (λ (s : ServerAt). s.place) server))
        (ap (λ (places : Places). provider (places i).routes service label) (places_listed list) ∙ led)
        ∙ served_there list.entries components (so_far.offers ∙ ap (map (λ e. offer_in e.binary)) all_taken) (route_within most_lists list entry service label)
        ∙ ap (option_map Some) (sym led);
    homes = so_far.homes;
  })
