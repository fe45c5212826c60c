-- What a start list tells of a component's calls hangs on no budget.
use Rattle.std.proofs.Common.{◌≡◌, ℕ, zero, suc, ◌+◌, ◌<◌, ◌==◌, cond, ◌&&◌, Bool, false, true, List, [], ◌∷◌, ◌++◌, inl, inr, length, map, refl, sym, subst, ap, arith, ◌∙◌}
use Rattle.std.proofs.lemmas.List.{length-map}
use Rattle.std.proofs.lemmas.Option.{none-some, same_Some, slice_get-map, slice_get_cases, unwrap_or-slice_get}
use Rattle.std.proofs.lemmas.List.Sums.{sum_by-cons}
use Rattle.std.specs.Prelude.{if◌then◌else◌, Option, Some, None, count_by, slice_index_or}
use Rattle.std.specs.List.{slice_get}
use Rattle.std.specs.Option.{option_map, option_and_then, unwrap_or}
use Rattle.std.specs.Str.{bytes_eq}
use Rattle.list_parser.proofs.ListLemmas.{position-map}
use Rattle.trade_base.specs.Service.{service_name, services}
use Rattle.own_model.specs.Listed.{Binary, Listed, ListedEntry, ListedRule, Target, Way, init_entry, default_of, most_lists, offers, named_provider, only_provider, way_to, rules_for, offer_at, offer_in, server_at, service_in, with_name, with_names, lead_of, lead_to, lead_without, own_rule, own_rule_for, own_rules_asking, own_rules, level_of, levels_within, kind_of, reserve_of, start_of, start_list_of}
use Rattle.own_model.specs.Listed.Binary.{Script as AScript, Server as AServer, Init as AnInit}
use Rattle.own_model.specs.Listed.Target.{Child, AnyChild, Parent}
use Rattle.own_model.specs.Listed.Way.{Inside, Outside}
use Rattle.own_model.specs.Account.{opened}
use Rattle.own_model.specs.Amounts.{Amounts, no_amounts}
use Rattle.own_model.specs.StartList.{StartEntry, of_component, start_state}
use Rattle.own_model.specs.StartList.Kind.{Script}
use Rattle.own_model.specs.Transcript.{nobody, nothing}
use Rattle.own_model.specs.World.{World, start_world}
use Rattle.budget_theorems.specs.Need.{budgeted, limited}
use Rattle.list_parser.specs.Depth.{runs_script}
use Rattle.budget_meter.specs.Needs.{amounts_of}
use Rattle.budget_meter.specs.declared.budget.Budget.{Budget}
use Rattle.list_parser.specs.Budgets.{bare, but_budgets, entry_with_budget, entry_with_reserve, with_budget, with_reserve}
use Rattle.list_parser.proofs.BudgetLemmas.{budget_aside, changed_there, reserve_aside}
use Rattle.budget_search.specs.Alike.{budget_at, given_in, IsFunded, own_entry, own_state}
use Rattle.budget_search.specs.OpenedSessions.{IsReadyFor}
use Rattle.budget_search.specs.Run.{Begins}
use Rattle.budget_search.proofs.WholeLemmas.{whole_alone}

-- ---- lists that a function makes

count-map : {X Y : Type 0} (p : Y → Bool) (f : X → Y) (xs : List X) → count_by (λ x. p (f x)) xs ≡ count_by p (map f xs)
count-map p f [] = refl
count-map p f (x ∷ xs) =
    sum_by-cons (λ y. cond (p (f y)) 1 0) x xs ∙ ap (λ n. cond (p (f x)) 1 0 + n) (count-map p f xs) ∙ sym (sum_by-cons (λ y. cond (p y) 1 0) (f x) (map f xs))

-- ---- entries without budgets

services_bare : (names : List (List ℕ)) (entries : List ListedEntry) → with_names names entries ≡ with_names names (map bare entries)
services_bare names [] = refl
services_bare names (entry ∷ entries) = services_bare (with_name names (service_in entry.binary)) entries

module _ (entries : List ListedEntry) where
  abbrev bared : List ListedEntry
  bared = map bare entries

  named_bare : (init : ℕ) (name service : List ℕ) → named_provider entries init name service ≡ named_provider bared init name service
  named_bare init name service = position-map (λ entry. bytes_eq entry.name name && offers init service entry) bare entries

  only_bare : (init : ℕ) (service : List ℕ) → only_provider entries init service ≡ only_provider bared init service
  only_bare init service = λ i. if count-map (offers init service) bare entries i == 1 then position-map (offers init service) bare entries i else None

  way_bare : (init : ℕ) (target : Target) (service : List ℕ) → way_to entries init target service ≡ way_to bared init target service
  way_bare init (Child name) service = ap Inside (named_bare init name service)
  way_bare init AnyChild service = ap Inside (only_bare init service)
  way_bare init Parent service = refl

  offer_of : (entry : Option ListedEntry) → option_and_then (λ e. offer_in e.binary) entry ≡ option_and_then (λ e. offer_in e.binary) (option_map bare entry)
  offer_of (Some entry) = refl
  offer_of None = refl

  offer_bare : (child : ℕ) → offer_at entries child ≡ offer_at bared child
  offer_bare child = offer_of (slice_get entries child) ∙ ap (option_and_then (λ e. offer_in e.binary)) (sym (slice_get-map bare entries child))

  server_bare : (child : ℕ) → server_at entries child ≡ server_at bared child
  server_bare child = ap (option_map (λ kind. record { kind = kind; place = child })) (offer_bare child)

  lead_bare : (way : Way) → lead_of entries way ≡ lead_of bared way
  lead_bare (Inside (Some child)) = ap lead_to (server_bare child)
  lead_bare (Inside None) = refl
  lead_bare Outside = refl

  rule_bare : (init : ℕ) (rule : ListedRule) (service : List ℕ) → own_rule_for entries init rule service ≡ own_rule_for bared init rule service
  rule_bare init rule service =
      ap (own_rule rule (Some service)) (lead_bare (way_to entries init rule.target service) ∙ ap (lead_of bared) (way_bare init rule.target service))

  asking_bare : (init : ℕ) (rule : ListedRule) (service : Option (List ℕ)) → own_rules_asking entries init rule service ≡ own_rules_asking bared init rule service
  asking_bare init rule (Some service) = ap (λ r. r ∷ []) (rule_bare init rule service)
  asking_bare init rule None = λ i. map (λ service. rule_bare init rule service i) (services_bare (map service_name services) entries i) ++ own_rule rule None (lead_without rule.target) ∷ []

  rules_bare : (init : ℕ) (rules : List ListedRule) → own_rules entries init rules ≡ own_rules bared init rules
  rules_bare init [] = refl
  rules_bare init (rule ∷ rules) = λ i. asking_bare init rule rule.service i ++ rules_bare init rules i

module _ (list : Listed) where
  inner_of : (entry : Option ListedEntry) → unwrap_or (option_map (λ e. e.inner_route) entry) [] ≡ unwrap_or (option_map (λ e. e.inner_route) (option_map bare entry)) []
  inner_of (Some entry) = refl
  inner_of None = refl

  default_bare : (init : ℕ) → default_of list init ≡ default_of (but_budgets list) init
  default_bare zero = refl
  default_bare (suc place) =
      inner_of (slice_get list.entries place) ∙ ap (λ entry. unwrap_or (option_map (λ e. e.inner_route) entry) []) (sym (slice_get-map bare list.entries place))

  for_bare : (entry : ListedEntry) → rules_for list entry ≡ rules_for (but_budgets list) (bare entry)
  for_bare entry = ap (unwrap_or entry.route) (default_bare entry.home)

  level_bare : (entry : ListedEntry) → level_of list entry ≡ level_of (but_budgets list) (bare entry)
  level_bare entry =
      (λ i. record { name = entry.name; rules = own_rules list.entries entry.home (for_bare entry i) })
      ∙ (λ i. record { name = entry.name; rules = rules_bare list.entries entry.home (rules_for (but_budgets list) (bare entry)) i })

  init_bare : (init : ℕ) → init_entry (but_budgets list) init ≡ option_map bare (init_entry list init)
  init_bare zero = refl
  init_bare (suc place) = slice_get-map bare list.entries place

  outer_bare : (lists : ℕ) → ((entry : ListedEntry) → levels_within lists list entry ≡ levels_within lists (but_budgets list) (bare entry)) → (init : Option ListedEntry) →
      unwrap_or (option_map (levels_within lists list) init) [] ≡ unwrap_or (option_map (levels_within lists (but_budgets list)) (option_map bare init)) []
  outer_bare lists inner (Some init) = inner init
  outer_bare lists inner None = refl

  levels_bare : (lists : ℕ) (entry : ListedEntry) → levels_within lists list entry ≡ levels_within lists (but_budgets list) (bare entry)
  levels_bare zero entry = refl
  levels_bare (suc lists) entry = λ i. level_bare entry i ∷ (outer_bare lists (λ e. levels_bare lists e) (init_entry list entry.home)
      ∙ ap (λ init. unwrap_or (option_map (levels_within lists (but_budgets list)) init) []) (sym (init_bare entry.home))) i

  -- what an entry comes to in own step
  pub entry_bare : (entry : ListedEntry) → (start_of list entry).entry ≡ (start_of (but_budgets list) (bare entry)).entry
  entry_bare entry = λ i. record (start_of (but_budgets list) (bare entry)).entry { routes = levels_bare most_lists entry i }

-- ---- a component of two lists

other_kind : (binary : Binary) → runs_script binary ≡ false → kind_of binary ≡ Script → ⊥
other_kind AScript other is = absurd (cc)
other_kind (AServer service offer) other is = absurd (cc)
other_kind AnInit other is = absurd (cc)

script_kind : (binary : Binary) → runs_script binary ≡ true → kind_of binary ≡ Script
script_kind AScript script = refl
script_kind (AServer service offer) script = absurd (cc)
script_kind AnInit script = absurd (cc)

module _ (list : Listed) (component : ℕ) (entry : ListedEntry) (is : slice_get list.entries component ≡ Some entry) where
  pub given_told : (budget : Budget) → budget.ram ≡ entry.ram → budget.caps ≡ entry.caps → amounts_of budget ≡ given_in list component
  given_told budget ram caps = (λ i. record { ram = ram i; caps = caps i }) ∙ ap (λ o. unwrap_or (option_map budget_at o) no_amounts) (sym is)

  named : {X : Type 0} (f : StartEntry → X) (d : X) → slice_index_or (map f (map (start_of list) list.entries)) component d ≡ f (start_of list entry)
  named f d =
      sym (unwrap_or-slice_get (map f (map (start_of list) list.entries)) component d)
      ∙ ap (λ o. unwrap_or o d) (slice_get-map f (map (start_of list) list.entries) component)
      ∙ ap (λ o. unwrap_or (option_map f o) d) (slice_get-map (start_of list) list.entries component)
      ∙ ap (λ o. unwrap_or (option_map f (option_map (start_of list) o)) d) is

  pub entry_named : own_entry list component ≡ (start_of list entry).entry
  entry_named = named (λ start. start.entry) nobody

  pub is_script : runs_script entry.binary ≡ true → (own_entry list component).kind ≡ Script
  is_script script = ap (λ e. e.kind) entry_named ∙ script_kind entry.binary script

  pub not_script : runs_script entry.binary ≡ false → (own_entry list component).kind ≡ Script → ⊥
  not_script other script = other_kind entry.binary other (ap (λ e. e.kind) (sym entry_named) ∙ script)

  pub state_named : own_state list component ≡ start_state (start_of list entry)
  state_named = named start_state nothing

module _ (one other : Listed) (component : ℕ) (a b : ListedEntry) (is_a : slice_get one.entries component ≡ Some a) (is_b : slice_get other.entries component ≡ Some b)
    (alike : but_budgets one ≡ but_budgets other) where
  bare_same : bare a ≡ bare b
  bare_same =
      same_Some (bare a) (bare b)
      (sym (slice_get-map bare one.entries component ∙ ap (option_map bare) is_a) ∙ ap (λ list. slice_get list.entries component) alike
      ∙ slice_get-map bare other.entries component ∙ ap (option_map bare) is_b)

  pub same_entry : own_entry one component ≡ own_entry other component
  same_entry =
      entry_named one component a is_a ∙ entry_bare one a ∙ (λ i. (start_of (alike i) (bare_same i)).entry) ∙ sym (entry_bare other b)
      ∙ sym (entry_named other component b is_b)

  kind_a : (own_entry other component).kind ≡ Script → kind_of a.binary ≡ Script
  kind_a script = ap (λ entry. entry.kind) (sym (entry_named one component a is_a) ∙ same_entry) ∙ script

  kind_b : (own_entry other component).kind ≡ Script → kind_of b.binary ≡ Script
  kind_b script = ap (λ entry. entry.kind) (sym (entry_named other component b is_b)) ∙ script

  -- with the reserve as it was, and another budget
  pub same_state : (own_entry other component).kind ≡ Script → (budget : Amounts) → a.ram ≡ budget.ram → a.caps ≡ budget.caps → reserve_of a ≡ reserve_of b →
      own_state one component ≡ budgeted budget (own_state other component)
  same_state script budget ram caps reserve =
      state_named one component a is_a
      ∙ (λ i. record (start_state (start_of one a)) {
        account = opened (of_component (kind_a script i) (record { ram = ram i; caps = caps i })).ram (of_component (kind_a script i) (record { ram = ram i; caps = caps i })).caps;
        reserve = of_component (kind_a script i) (reserve i);
      })
      ∙ (λ i. record (start_state (start_of other b)) { account = opened budget.ram budget.caps; reserve = of_component (sym (kind_b script) i) (reserve_of b) })
      ∙ ap (budgeted budget) (sym (state_named other component b is_b))

  pub begins : (own_entry other component).kind ≡ Script → (budget : Amounts) → a.ram ≡ budget.ram → a.caps ≡ budget.caps → reserve_of a ≡ reserve_of b →
      Begins (start_list_of one) component budget (own_state other component)
  begins script budget ram caps reserve = record {
    script = ap (λ entry. entry.kind) same_entry ∙ script;
    state = same_state script budget ram caps reserve;
    here = ap (λ s. s.gone) (state_named other component b is_b);
    growth = ap (λ s. s.heap.shape.growth) (state_named other component b is_b);
  }

-- ---- a component that is given another budget

-- a list but for budgets has as many entries
pub same_count : (one other : Listed) → but_budgets one ≡ but_budgets other → length one.entries ≡ length other.entries
same_count one other alike = sym (length-map one.entries bare) ∙ ap (λ list. length list.entries) alike ∙ length-map other.entries bare

-- nor does a list on which a budget or a reserve is set differ otherwise
pub budget_set : (old new : Listed) (place : ℕ) (budget : Amounts) → new ≡ with_budget old place budget → but_budgets new ≡ but_budgets old
budget_set old new place budget is = ap but_budgets is ∙ budget_aside old place budget

pub reserve_set : (old new : Listed) (place : ℕ) (reserve : Option Amounts) → new ≡ with_reserve old place reserve → but_budgets new ≡ but_budgets old
reserve_set old new place reserve is = ap but_budgets is ∙ reserve_aside old place reserve

module _ (machine list : Listed) (component : ℕ) (budget : Amounts) (there : component < length list.entries) (funded : IsFunded machine list component budget) where
  given : (entry : ListedEntry) × (slice_get list.entries component ≡ Some entry)
  given = elim (slice_get_cases list.entries component).1 [ inl here ↦ (here.0, here.2) | inr past ↦ absurd (omega (arith, there, past.0)) ]

  has : slice_get machine.entries component ≡ Some (entry_with_budget budget given.0)
  has = funded.given ∙ changed_there (entry_with_budget budget) list.entries component ∙ ap (option_map (entry_with_budget budget)) given.1

  pub funded_entry : own_entry machine component ≡ own_entry list component
  funded_entry = same_entry machine list component (entry_with_budget budget given.0) given.0 has given.1 funded.alike

  pub funded_begins : (own_entry list component).kind ≡ Script → Begins (start_list_of machine) component budget (own_state list component)
  funded_begins script = begins machine list component (entry_with_budget budget given.0) given.0 has given.1 funded.alike script budget refl refl refl

  -- where the list has just booted, the component has called nothing, if it is a script, and has the budget
  pub ready_first : (own_entry list component).kind ≡ Script → (core : World) → core ≡ start_world (start_list_of machine) → (client : ℕ) → client ≡ component →
      IsReadyFor (own_entry list component) budget core client
  ready_first script core booted client is =
      subst (λ n. IsReadyFor (own_entry list component) budget core n) (sym is)
      (subst (λ w. IsReadyFor (own_entry list component) budget w component) (sym booted) (record {
        ready = record {
          script = ap (λ entry. entry.kind) funded_entry ∙ script;
          entry = omega (arith, within, length-map (start_list_of machine).starts (λ (start : StartEntry). start.entry), length-map machine.entries (start_of machine));
          there = omega (arith, within, length-map (start_list_of machine).starts start_state, length-map machine.entries (start_of machine));
          here = ap (λ s. s.gone) started;
          selectors = ap (λ s. s.selectors) started;
        };
        same = funded_entry;
        whole_is =
            whole_alone (own_state machine component) (ap (λ s. s.selectors) started)
            ∙ ap (λ s. s.account) (funded_begins script).state ∙ ap (λ s. limited budget s.account) (state_named list component given.0 given.1);
      }))
    where
      within : component < length machine.entries
      within = omega (arith, there, same_count machine list funded.alike)

      started : own_state machine component ≡ start_state (start_of machine (entry_with_budget budget given.0))
      started = state_named machine component (entry_with_budget budget given.0) has

-- once all is taken away, and the inits are given enough, the component is given what it had but for its budget
pub is_funded : (machine list : Listed) (component : ℕ) (budget : Amounts) (entry : ListedEntry) → slice_get list.entries component ≡ Some entry →
    but_budgets machine ≡ but_budgets list → IsFunded (with_reserve (with_budget machine component budget) component entry.reserve) list component budget
is_funded machine list component budget entry there alike = record {
  alike = reserve_aside (with_budget machine component budget) component entry.reserve ∙ budget_aside machine component budget ∙ alike;
  given =
      changed_there (entry_with_reserve entry.reserve) (with_budget machine component budget).entries component
      ∙ ap (option_map (entry_with_reserve entry.reserve)) (changed_there (entry_with_budget budget) machine.entries component)
      ∙ by (slice_get machine.entries component) (sym (slice_get-map bare machine.entries component) ∙ ap (λ l. slice_get l.entries component) alike
      ∙ slice_get-map bare list.entries component ∙ ap (option_map bare) there)
      ∙ sym (changed_there (entry_with_budget budget) list.entries component ∙ ap (option_map (entry_with_budget budget)) there);
}
  where
    by : (o : Option ListedEntry) → option_map bare o ≡ Some (bare entry) →
        option_map (entry_with_reserve entry.reserve) (option_map (entry_with_budget budget) o) ≡ Some (entry_with_budget budget entry)
    by (Some e) same = ap (λ b. Some (entry_with_reserve entry.reserve (entry_with_budget budget b))) (same_Some (bare e) (bare entry) same)
    by None same = absurd (none-some (bare entry) same)
