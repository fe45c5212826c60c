-- How far a boot is, one entry after another.
use Rattle.std.proofs.Common.{◌≡◌, ◌≢◌, ℕ, zero, suc, ◌+◌, ◌<◌, ◌≤◌, ◌&&◌, true, false, inl, inr, Option, IsSome, List, [], ◌∷◌, ◌++◌, length, get_or, map, take, drop, Some, None, subst, refl, sym, ap, ◌∙◌, arith}
use Rattle.std.specs.Prelude.{IfSome, is_none}
use Rattle.std.specs.List.{slice_get}
use Rattle.std.proofs.lemmas.Bool.{false≢true}
use Rattle.std.specs.Option.{option_map, unwrap_or}
use Rattle.std.proofs.lemmas.List.{map_push, map_more, drop-map, drop_more, get_or-map, get_or-take, length-map, length-take-le, take-map}
use Rattle.std.proofs.lemmas.List.Elements.{All-push, All-weaker}
use Rattle.std.proofs.lemmas.Option.{slice_get_read, slice_get-map, unwrap_or-slice_get}
use Rattle.std.proofs.Math.Bool.{and-false}
use Rattle.trade_base.specs.declared.refusal.Refusal.{Refusal}
use Rattle.trade_base.specs.declared.id.AccountId.{AccountId}
use Rattle.own_model.specs.Account.{Account, Fits, opened, parted_with, shortage}
use Rattle.own_model.specs.Amounts.{Amounts}
use Rattle.own_model.specs.Reserve.{no_reserve}
use Rattle.own_model.proofs.StepReserveLemmas.{covered_in_turn}
use Rattle.own_model.proofs.StepLemmas.{covers}
use Rattle.own_model.specs.Listed.{Listed, ListedEntry, Binary, kind_of, offer_in, reserve_by, reserve_of, start_of, start_list_of}
use Rattle.own_model.specs.Listed.Binary.{Script, Server, Init}
use Rattle.own_model.specs.StartList.{StartEntry, AllCovered, IsCovered, budget, init_at, inits_at_first, inits_keep, start_state, with_started}
use Rattle.own_model.specs.StartList.Kind.{Script as AScript, Init as AnInit}
use Rattle.dataspace_core.specs.Store.{Store, IsOpenIn, IsChildIn, account_in, root_in, room_in}
use Rattle.pd_core.specs.Component.{Place, entry_of, payer_in, payer_of}
use Rattle.pd_core.specs.Component.{kind_of as kind_in, offer_of}
use Rattle.pd_core.specs.Core.{IsInitOf, IsInits, inits_of, roles_of}
use Rattle.pd_core.specs.Fresh.{start_of as start_in, starts_of, IsFresh}
use Rattle.pd_core.specs.declared.component.Role.TheVariants.{Gone}
use Rattle.pd_core.specs.declared.component.Component.{Component}
use Rattle.list_parser.specs.Depth.{IsParentInit, is_init, is_list, runs_init}
use Rattle.list_parser.specs.declared.fault.BootFault.TheVariants.{QuotaExceeded}
use Rattle.init_core.specs.Boot.{HasStarted, IsMade, Opens, IsInitAt, places_at, place_of, to_come}
use Rattle.list_parser.specs.Quota.{first_or, first_uncovered, quota_fault}
use Rattle.init_core.proofs.StartLemmas.{Beside, IsOpened, IsNewTo, HasReserve, account_after, start_after, fresh_after, fresh_stays, init_after, is_new, new_before, open_by_part, opened_here, opened_beside, opens_beside, beside_then, caps_few, apart_after, still_open}
use Rattle.init_core.proofs.InitLemmas.{enumerated-push, enumerated_alone, map_twice, init_by_kind, with_head, more_heads, heads_after, are_heads_after, init_open, home_within, init_at_home, inits_after, made_init, states_stay, homes_after}

-- what is none or some by its test
none_by : {X : Type 0} (o : Option X) → is_none o ≡ true → o ≡ None
none_by None is = refl
none_by (Some x) is = absurd (false≢true is)

is_some_by : {X : Type 0} (o : Option X) → is_none o ≡ false → IsSome o
is_some_by None is = absurd (false≢true (sym is))
is_some_by (Some x) is = refl

-- the next entry is the first one to come
to_come_more : (list : Listed) (count : ℕ) (entry : ListedEntry) → count < length list.entries → entry ≡ get_or list.entries count entry →
    to_come list count ≡ start_of list entry ∷ to_come list (count + 1)
to_come_more list count entry within is =
    drop-map (start_of list) count list.entries ∙ ap (map (start_of list)) (drop_more list.entries count entry within)
    ∙ ap (λ e. start_of list e ∷ map (start_of list) (drop (count + 1) list.entries)) (sym is)
    ∙ ap (λ starts. start_of list entry ∷ starts) (sym (drop-map (start_of list) (count + 1) list.entries))

-- its place is what the list says of it
place_next : (list : Listed) (count : ℕ) (entry : ListedEntry) → count < length list.entries → entry ≡ get_or list.entries count entry → places_at list count ≡ place_of list (Some entry)
place_next list count entry within is = ap (place_of list) (slice_get_read list.entries (length list.entries) count entry refl within is)

-- what isn't covered in one of two parts isn't covered as a whole
lacks_both : (a : Account) (ram caps more_ram more_caps : ℕ) → (is_none (shortage a ram caps) && is_none (shortage (parted_with a ram caps) more_ram more_caps)) ≡ false →
    IsSome (shortage a (ram + more_ram) (caps + more_caps))
lacks_both a ram caps more_ram more_caps lacks = is_some_by (shortage a (ram + more_ram) (caps + more_caps)) (covered_in_turn a ram caps more_ram more_caps ∙ lacks)

-- the first of the entries that isn't covered is told where its shortage is
first_short : (short : Option Refusal) (start : StartEntry) (behind : Option StartEntry) → IsSome short → first_or short start behind ≡ Some start
first_short None start behind some = absurd (false≢true some)
first_short (Some refusal) start behind some = refl

-- who isn't an init has no reserve but a script
init_alone : (binary : Binary) (given : Option Amounts) → kind_of binary ≡ AnInit → reserve_by binary given ≡ no_reserve
init_alone Script given is = absurd cc
init_alone (Server service offer) given is = refl
init_alone Init given is = refl

more_by_none : (a b : ℕ) → b ≡ 0 → a ≡ a + b
more_by_none a b none = omega (arith, none)

-- ---- where the next entry's init is

-- the init of a number is one
inits_of_home : (store : Store) (components : List Component) (home init : ℕ) → IsInitAt store (roles_of components) home init → IsInits store (roles_of components) init
inits_of_home store components zero init is = inl is
inits_of_home store components (suc place) init is = inr (place, is)

-- an entry that is an init has the kind of one
kind_by_binary : (binary : Binary) → runs_init binary ≡ true → kind_of binary ≡ AnInit
kind_by_binary Script is = absurd (false≢true is)
kind_by_binary (Server service offer) is = absurd (false≢true is)
kind_by_binary Init is = refl

kind_by_test : (entry : Option ListedEntry) → unwrap_or (option_map is_init entry) false ≡ true → unwrap_or (option_map (λ e. kind_of e.binary) entry) AScript ≡ AnInit
kind_by_test None is = absurd (false≢true is)
kind_by_test (Some entry) is = kind_by_binary entry.binary is

module _ {list : Listed} {store : Store} {components : List Component} {keys : List AccountId} {count : ℕ} (so_far : HasStarted list store components keys count) (within : count ≤ length list.entries) where
  -- as many components as entries have started
  pub counted : length components ≡ count
  counted = sym (length-map components offer_of) ∙ ap length so_far.offers ∙ length-map (take count list.entries) (λ e. offer_in e.binary) ∙ length-take-le count list.entries within

  place_in : (place : ℕ) → place < count → place < length (map (λ (c : Component). c.role) components)
  place_in place before = omega (arith, before, counted, length-map components (λ (c : Component). c.role))

  -- and there is a key more
  pub keys_in : (home : ℕ) → home ≤ count → home < length keys
  keys_in home before = omega (arith, before, counted, length-map keys (λ (k : AccountId). k.0), ap length so_far.keys_are, length-map components payer_of)

  -- each component is of its entry's kind
  kinds : map (λ c. kind_in c.role) components ≡ map (λ entry. kind_of entry.binary) (take count list.entries)
  kinds =
      sym (enumerated_alone (λ (c : Component). kind_in c.role) 0 components) ∙ sym (map_twice (λ c. entry_of (places_at list c.0) c.1) (λ e. e.kind) _)
      ∙ ap (map (λ e. e.kind)) so_far.entries ∙ map_twice (λ entry. (start_of list entry).entry) (λ e. e.kind) (take count list.entries)

  kind_at : (place : ℕ) → place < count → is_list list.entries (suc place) ≡ true → kind_in (roles_of components place) ≡ AnInit
  kind_at place before is =
      sym (get_or-map kind_in (map (λ c. c.role) components) place Gone AScript (place_in place before))
      ∙ ap (λ ks. get_or ks place AScript) (map_twice (λ (c : Component). c.role) kind_in components ∙ kinds ∙ sym (take-map (λ e. kind_of e.binary) count list.entries))
      ∙ get_or-take count (map (λ e. kind_of e.binary) list.entries) place AScript before
      ∙ sym (unwrap_or-slice_get (map (λ e. kind_of e.binary) list.entries) place AScript)
      ∙ ap (λ found. unwrap_or found AScript) (slice_get-map (λ e. kind_of e.binary) list.entries place)
      ∙ kind_by_test (slice_get list.entries place) is

  -- the key at its home is that of its init
  pub init_there : (home : ℕ) (init : AccountId) → IsParentInit list.entries count home → init ≡ get_or keys home init → IsInitAt store (roles_of components) home init.0
  init_there zero init at is =
      ap (λ ks. get_or ks 0 0) (sym so_far.keys_are) ∙ get_or-map (λ (k : AccountId). k.0) keys 0 init 0 (keys_in 0 at.before) ∙ ap (λ (k : AccountId). k.0) (sym is)
  init_there (suc place) init at is =
      let before : place < count = omega (arith, at.before) in
      let payer : payer_in (roles_of components place) ≡ init.0 =
      sym (get_or-map payer_in (map (λ c. c.role) components) place Gone 0 (place_in place before))
      ∙ ap (λ ks. get_or ks place 0) (map_twice (λ (c : Component). c.role) payer_in components)
      ∙ ap (λ ks. get_or ks (suc place) 0) (sym so_far.keys_are)
      ∙ get_or-map (λ (k : AccountId). k.0) keys (suc place) init 0 (keys_in (suc place) at.before) ∙ ap (λ (k : AccountId). k.0) (sym is) in
      subst (IsInitOf (roles_of components place)) payer (init_by_kind (roles_of components place) (kind_at place before at.list))

-- so the key that stands there for the next entry is that of its init
pub init_next : {list : Listed} {store : Store} {components : List Component} {keys : List AccountId} {count : ℕ} {entry : ListedEntry} → HasStarted list store components keys count →
    count < length list.entries → entry ≡ get_or list.entries count entry → (home : ℕ) (init : AccountId) → IsParentInit list.entries count home →
    option_map (λ (e : ListedEntry). e.home) (slice_get list.entries count) ≡ Some home → init ≡ get_or keys home init → IsInitAt store (roles_of components) entry.home init.0
init_next {list} {store} {components} {keys} {count} {entry} so_far within is home init at told init_is =
    let found = slice_get_read list.entries (length list.entries) count entry refl within is in
    let same : home ≡ entry.home = cc (told, found) in
    subst (λ h. IsInitAt store (roles_of components) h init.0) same (init_there so_far (omega (arith, within)) home init at init_is)

module _ {list : Listed} {store : Store} {components : List Component} {keys : List AccountId} {count : ℕ} {entry : ListedEntry} (init : ℕ) (so_far : HasStarted list store components keys count)
    (within : count < length list.entries) (is : entry ≡ get_or list.entries count entry) (init_is : IsInitAt store (roles_of components) entry.home init) where
  -- what its init has left, and what the entry takes of it
  abbrev left : Account
  left = account_in store init

  abbrev kept : Amounts
  kept = reserve_of entry

  abbrev start : StartEntry
  start = start_of list entry

  abbrev was : List Account
  was = inits_of store components

  left_is : init_at was entry.home ≡ left
  left_is = init_at_home so_far.parts entry.home init init_is

  -- what isn't covered hangs on the next entry
  uncovered_next : first_uncovered (inits_at_first (start_list_of list)) (start_list_of list).starts
      ≡ first_or (shortage left (budget start).ram (budget start).caps) start (first_uncovered (with_started was start) (to_come list (count + 1)))
  uncovered_next =
      so_far.uncovered ∙ ap (first_uncovered was) (to_come_more list count entry within is)
      ∙ ap (λ a. first_or (shortage a (budget start).ram (budget start).caps) start (first_uncovered (with_started was start) (to_come list (count + 1)))) left_is

  -- where its init doesn't cover that, the list doesn't boot
  fault_next : IsSome (shortage left (entry.ram + kept.ram) (entry.caps + kept.caps)) → quota_fault list ≡ Some (QuotaExceeded entry.path)
  fault_next short =
      ap (option_map (λ start. QuotaExceeded start.entry.name))
      (uncovered_next ∙ first_short _ start (first_uncovered (with_started was start) (to_come list (count + 1))) short)

  -- the account isn't covered
  pub uncovered_account : (ram caps : ℕ) → ram ≡ entry.ram → caps ≡ entry.caps → is_none (shortage left ram caps) ≡ false → quota_fault list ≡ Some (QuotaExceeded entry.path)
  uncovered_account ram caps ram_is caps_is lacks =
      let here : is_none (shortage left entry.ram entry.caps) ≡ false = (λ j. is_none (shortage left (sym ram_is j) (sym caps_is j))) ∙ lacks in
      fault_next (lacks_both left entry.ram entry.caps kept.ram kept.caps (ap (λ b. b && is_none (shortage (parted_with left entry.ram entry.caps) kept.ram kept.caps)) here))

  -- or it is, and the reserve isn't
  pub uncovered_reserve : {store' : Store} {account : ℕ} (ram caps more_ram more_caps : ℕ) → ram ≡ entry.ram → caps ≡ entry.caps → more_ram ≡ kept.ram → more_caps ≡ kept.caps →
      Opens store init account ram caps store' → is_none (shortage (account_in store' init) more_ram more_caps) ≡ false → quota_fault list ≡ Some (QuotaExceeded entry.path)
  uncovered_reserve {store'} ram caps more_ram more_caps ram_is caps_is more_ram_is more_caps_is opens lacks =
      let parted : account_in store' init ≡ parted_with left entry.ram entry.caps = init_after (opens_beside opens) ∙ (λ j. parted_with left (ram_is j) (caps_is j)) in
      let there : is_none (shortage (parted_with left entry.ram entry.caps) kept.ram kept.caps) ≡ false =
      (λ j. is_none (shortage (sym parted j) (sym more_ram_is j) (sym more_caps_is j))) ∙ lacks in
      fault_next (lacks_both left entry.ram entry.caps kept.ram kept.caps (ap (λ b. is_none (shortage left entry.ram entry.caps) && b) there ∙ and-false (is_none (shortage left entry.ram entry.caps))))

  -- its init's account is open, still after the first account
  pub init_still_open : {store' : Store} {account ram caps : ℕ} → Opens store init account ram caps store' → IsOpenIn store' init
  init_still_open opens = still_open (opens_beside opens) init (init_open so_far.parts entry.home init init_is)

  -- where both are covered and opened, and a component is made, that has started
  one_more : {store' : Store} {reserve : Option ℕ} (key : AccountId) (component : Component) → is_none (shortage left (entry.ram + kept.ram) (entry.caps + kept.caps)) ≡ true →
      Beside store store' init (entry.ram + kept.ram) (entry.caps + kept.caps) → room_in store ≤ room_in store' + 2 → IsOpened store' init key.0 entry.ram entry.caps →
      HasReserve store' init key.0 kept reserve → IsNewTo store key.0 → IfSome reserve (IsNewTo store) → IsMade list entry key.0 reserve component →
      HasStarted list store' (components ++ component ∷ []) (keys ++ key ∷ []) (count + 1)
  one_more {store'} {reserve} key component covers_it beside places own held own_new reserve_new made =
      let enough = none_by (shortage left (entry.ram + kept.ram) (entry.caps + kept.caps)) covers_it in
      let at_most : count ≤ length list.entries = omega (arith, within) in
      let old_parts = so_far.parts in
      let is_open = init_open old_parts entry.home init init_is in
      let all_ram = beside.machine ∙ so_far.machine in
      let all_caps = beside.all_caps ∙ so_far.all_caps in
      let few = caps_few store init (entry.ram + kept.ram) (entry.caps + kept.caps) is_open enough in
      let tables = made.tables store' (entry.caps + kept.caps) all_ram (omega (arith, so_far.all_caps, few)) in
      let place = place_next list count entry within is in
      let place_is : entry_of (places_at list count) component ≡ start.entry = made.entry_is (places_at list count)
      ∙ ap (λ (p : Place). record { name = p.name; label = entry.label; kind = kind_of entry.binary; home = p.home; routes = p.routes }) place in
      let begins : start_in (places_at list count) store' component ≡ start =
      start_after component kept reserve made.account_is made.reserve_is own held (places_at list count)
      ∙ ap (λ e. record { entry = e; ram = entry.ram; caps = entry.caps; reserve = kept }) place_is in
      let heads = with_head so_far.heads component.role in
      let more = more_heads so_far.heads component.role in
      let is_head = more init (so_far.are_heads init (inits_of_home store components entry.home init init_is)) in
      let last = fresh_after component kept reserve made.account_is made.reserve_is own held heads is_head tables made.heap (made.server store' all_ram all_caps) in
      let inits_next : inits_of store' (components ++ component ∷ []) ≡ with_started was start =
      inits_after old_parts beside entry.home init_is component start refl refl refl
      (made_init store' component.role (kind_of entry.binary) (budget start) (ap (λ e. e.kind) place_is)
      (λ kind.
      let none = init_alone entry.binary entry.reserve kind in
      account_after component kept reserve made.account_is made.reserve_is own held
      ∙ (λ j. opened (more_by_none entry.ram kept.ram (ap (λ a. a.ram) none) j) (more_by_none entry.caps kept.caps (ap (λ a. a.caps) none) j)))) in
      record {
        heads = heads;
        parts = record {
          root_head = more (root_in store') (ap so_far.heads beside.root ∙ old_parts.root_head);
          inits = heads_after so_far.heads store store' components component beside.root old_parts.inits;
          init = subst (IsOpenIn store') (sym beside.root) (still_open beside (root_in store) old_parts.init);
          outer = beside.outer heads is_head (λ account parent child. more parent (old_parts.outer account parent child));
          each = All-push (IsFresh heads store') components component (All-weaker (IsFresh so_far.heads store) (IsFresh heads store') (fresh_stays beside so_far.heads heads more) components old_parts.each) last;
          apart = apart_after component kept reserve made.account_is made.reserve_is own held so_far.heads store own_new reserve_new components old_parts.each old_parts.apart;
        };
        are_heads = are_heads_after so_far.heads store store' components component beside.root so_far.are_heads;
        there = beside.there so_far.there;
        keys_are =
            map_push (λ (k : AccountId). k.0) keys key
            ∙ (λ j. so_far.keys_are j ++ sym made.account_is j ∷ [])
            ∙ (λ j. sym beside.root j ∷ sym (map_push payer_of components component) j);
        entries =
            enumerated-push (λ c. entry_of (places_at list c.0) c.1) components component count (counted so_far at_most)
            ∙ (λ j. so_far.entries j ++ (place_is ∙ ap (λ e. (start_of list e).entry) is) j ∷ [])
            ∙ sym (map_more (λ e. (start_of list e).entry) list.entries count entry within);
        states =
            ap (map start_state) (enumerated-push (λ c. start_in (places_at list c.0) store' c.1) components component count (counted so_far at_most))
            ∙ map_push start_state (starts_of (places_at list) store' components) (start_in (places_at list count) store' component)
            ∙ (λ j. (states_stay old_parts beside entry.home init_is (places_at list) ∙ so_far.states) j ++ start_state ((begins ∙ ap (start_of list) is) j) ∷ [])
            ∙ sym (map_more (λ e. start_state (start_of list e)) list.entries count entry within);
        offers =
            map_push offer_of components component
            ∙ ap (λ offers. offers ++ offer_of component ∷ []) so_far.offers
            ∙ ap (λ s. map (λ e. offer_in e.binary) (take count list.entries) ++ s ∷ []) (made.offer ∙ ap (λ e. offer_in e.binary) is)
            ∙ sym (map_more (λ e. offer_in e.binary) list.entries count entry within);
        names = All-push (λ c. length c.name.items ≤ 140) components component so_far.names made.short;
        homes = homes_after old_parts beside entry.home init_is (places_at list) component
            (ap (λ n. (places_at list n).home) (counted so_far at_most) ∙ ap (λ (p : Place). p.home) place)
            (subst (λ account. IsChildIn store' account init) (sym made.account_is) own.child) so_far.homes;
        inits =
            so_far.inits ∙ ap (inits_keep was) (to_come_more list count entry within is)
            ∙ ap (λ inits. inits_keep inits (to_come list (count + 1))) (sym inits_next);
        uncovered =
            uncovered_next
            ∙ ap (λ s. first_or s start (first_uncovered (with_started was start) (to_come list (count + 1)))) enough
            ∙ ap (λ inits. first_uncovered inits (to_come list (count + 1))) (sym inits_next);
        covered = λ rest.
            let here : IsCovered was start = record { there = home_within old_parts entry.home init init_is; covers = subst (λ a. Fits a (budget start).ram (budget start).caps) (sym left_is) (covers left (budget start).ram (budget start).caps enough) } in
            so_far.covered (subst (AllCovered was) (sym (to_come_more list count entry within is)) (here, subst (λ inits. AllCovered inits (to_come list (count + 1))) inits_next rest));
        room = omega (arith, places, so_far.room);
        machine = all_ram;
        all_caps = all_caps;
      }

  -- who is no script starts on one account
  pub alone_started : {store' : Store} {ram caps : ℕ} (key : AccountId) (component : Component) → ram ≡ entry.ram → caps ≡ entry.caps → kept ≡ no_reserve →
      is_none (shortage left ram caps) ≡ true → Opens store init key.0 ram caps store' → IsMade list entry key.0 None component → HasStarted list store' (components ++ component ∷ []) (keys ++ key ∷ []) (count + 1)
  alone_started {store'} key component ram_is caps_is none covers_it opened made =
      let opens = subst (λ (p : ℕ × ℕ). Opens store init key.0 p.0 p.1 store') (λ j. (ram_is j, caps_is j)) opened in
      let all_ram : entry.ram ≡ entry.ram + kept.ram = more_by_none entry.ram kept.ram (ap (λ r. r.ram) none) in
      let all_caps : entry.caps ≡ entry.caps + kept.caps = more_by_none entry.caps kept.caps (ap (λ r. r.caps) none) in
      one_more key component
      ((λ j. is_none (shortage left (sym (ram_is ∙ all_ram) j) (sym (caps_is ∙ all_caps) j))) ∙ covers_it)
      (subst (λ (p : ℕ × ℕ). Beside store store' init p.0 p.1) (λ j. (all_ram j, all_caps j)) (opens_beside opens))
      (omega (arith, opens.part.room))
      (opened_here opens (init_open so_far.parts entry.home init init_is) so_far.parts.init) none (is_new opens) tt made

  -- a script on two
  pub script_started : {between store' : Store} {reserve ram caps more_ram more_caps : ℕ} (key : AccountId) (component : Component) →
      ram ≡ entry.ram → caps ≡ entry.caps → more_ram ≡ kept.ram → more_caps ≡ kept.caps →
      is_none (shortage left ram caps) ≡ true → Opens store init key.0 ram caps between →
      is_none (shortage (account_in between init) more_ram more_caps) ≡ true → Opens between init reserve more_ram more_caps store' →
      IsMade list entry key.0 (Some reserve) component → HasStarted list store' (components ++ component ∷ []) (keys ++ key ∷ []) (count + 1)
  script_started {between} {store'} {reserve} key component ram_is caps_is more_ram_is more_caps_is covers_own opened covers_more opened_more made =
      let opens = subst (λ (p : ℕ × ℕ). Opens store init key.0 p.0 p.1 between) (λ j. (ram_is j, caps_is j)) opened in
      let more = subst (λ (p : ℕ × ℕ). Opens between init reserve p.0 p.1 store') (λ j. (more_ram_is j, more_caps_is j)) opened_more in
      let is_open = init_open so_far.parts entry.home init init_is in
      let first = opens_beside opens in
      let parted : account_in between init ≡ parted_with left entry.ram entry.caps = init_after first in
      let own = opened_here opens is_open so_far.parts.init in
      let here : is_none (shortage left entry.ram entry.caps) ≡ true = (λ j. is_none (shortage left (sym ram_is j) (sym caps_is j))) ∙ covers_own in
      let there : is_none (shortage (parted_with left entry.ram entry.caps) kept.ram kept.caps) ≡ true =
      (λ j. is_none (shortage (sym parted j) (sym more_ram_is j) (sym more_caps_is j))) ∙ covers_more in
      let root_open : IsOpenIn between (root_in between) = subst (IsOpenIn between) (sym first.root) (still_open first (root_in store) so_far.parts.init) in
      let reserve_apart : reserve ≢ key.0 = λ e. is_new more key.0 (open_by_part between key.0 entry.ram entry.caps own.unused) (sym e) in
      one_more key component
      (covered_in_turn left entry.ram entry.caps kept.ram kept.caps ∙ (λ j. here j && there j))
      (beside_then first (opens_beside more))
      (omega (arith, opens.part.room, more.part.room))
      (opened_beside (opens_beside more) own) (opened_here more (still_open first init is_open) root_open, reserve_apart) (is_new opens) (new_before first (is_new more)) made
