-- What own step reads of a list's rules decides as they do.
use Rattle.std.proofs.Common.{rules, ◌≡◌, ℕ, zero, suc, Bool, true, false, cond, ◌&&◌, ◌||◌, ◌==◌, List, [], ◌∷◌, ◌++◌, length, Option, Some, None, refl, sym, ap, ◌∙◌, nat_eq, append_assoc, true≢false, arith}
use Rattle.std.specs.Prelude.{count_by, map, position}
use Rattle.std.specs.List.{AllByRecursion, list_any, position_or_len, starts_with, ends_with}
use Rattle.std.specs.Option.{option_and_then, option_map, unwrap_or}
use Rattle.std.specs.Str.{bytes_eq}
use Rattle.std.proofs.lemmas.Bool.{false_from_ne_true, or_parts}
use Rattle.std.proofs.lemmas.Bool.Decides.{nat_tests}
use Rattle.std.proofs.lemmas.List.Folds.{list_any-append}
use Rattle.std.proofs.lemmas.Slice.Eq.{bytes_eq-Decides}
use Rattle.std.proofs.Math.Bool.{and-false}
use Rattle.trade_base.specs.Service.{service_name, services}
use Rattle.own_model.proofs.ListLemmas.{all_then}
use Rattle.own_model.specs.Routes.{Lead, Level, Rule, ServerAt, as_asked, decided, label_with, led_to, provider}
use Rattle.own_model.specs.Listed.{Binary, Target, Listed, ListedEntry, ListedRule, Way, service_in, with_name, with_names, services_of, serves, offers, init_entry, way_to, way_by, rules_for, end_of, route_within, server_at, lead_to, lead_of, lead_without, own_rule, own_rule_for, own_rules_asking, own_rules, levels_within, RoutesLeadToProviders}
use Rattle.own_model.specs.Listed.Binary.{Script, Server, Init}
use Rattle.own_model.specs.Listed.Target.{Child, AnyChild, Parent}
use Rattle.own_model.specs.Listed.Way.{Inside, Outside}

-- where nothing passes, all that stands there is passed over
none_passes : {X : Type 0} (p : X → Bool) (xs : List X) → AllByRecursion (λ x. p x ≡ false) xs → position_or_len p xs ≡ length xs
none_passes p [] none = refl
none_passes p (x ∷ xs) none = rw (none.0, none_passes p xs none.1) (omega arith)

position-none : {X : Type 0} (p : X → Bool) (xs : List X) → AllByRecursion (λ x. p x ≡ false) xs → position p xs ≡ None
position-none p xs none = rw (none_passes p xs none) (grind (arith, nat_tests))

-- ---- a name that no service of the list has

-- a name is none of these
abbrev IsNoneOf : List ℕ → List (List ℕ) → Type 0
IsNoneOf asked names = list_any (bytes_eq asked) names ≡ false

-- no binary serves it
abbrev NoneServe : List ℕ → List ListedEntry → Type 0
NoneServe asked entries = AllByRecursion (λ entry. serves entry.binary asked ≡ false) entries

-- a name that is another is there where the other is
is_there : (asked name : List ℕ) (names : List (List ℕ)) → IsNoneOf asked names → list_any (bytes_eq name) names ≡ true → bytes_eq asked name ≡ false
is_there asked name names none some =
    false_from_ne_true (bytes_eq asked name) (λ same. true≢false (sym some ∙ ap (λ n. list_any (bytes_eq n) names) (sym ((bytes_eq-Decides asked name).0 same)) ∙ none))

-- a name that is none of these with one more is none of them, and not the one
none_with : (asked name : List ℕ) (names : List (List ℕ)) (known : Bool) → list_any (bytes_eq name) names ≡ known → IsNoneOf asked (cond known names (names ++ name ∷ [])) →
    IsNoneOf asked names × (bytes_eq asked name ≡ false)
none_with asked name names true is none = (none, is_there asked name names none is)
none_with asked name names false is none =
    let parts = or_parts (list_any (bytes_eq asked) names) _ (sym (list_any-append (bytes_eq asked) names (name ∷ [])) ∙ none) in
    (parts.0, (or_parts (bytes_eq asked name) false parts.1).0)

none_with_binary : (asked : List ℕ) (names : List (List ℕ)) (binary : Binary) → IsNoneOf asked (with_name names (service_in binary)) → IsNoneOf asked names × (serves binary asked ≡ false)
none_with_binary asked names Script none = (none, refl)
none_with_binary asked names (Server service offer) none = none_with asked service names (list_any (bytes_eq service) names) refl none
none_with_binary asked names Init none = (none, refl)

none_serve : (asked : List ℕ) (names : List (List ℕ)) (entries : List ListedEntry) → IsNoneOf asked (with_names names entries) → IsNoneOf asked names × NoneServe asked entries
none_serve asked names [] none = (none, tt)
none_serve asked names (entry ∷ entries) none =
    let rest = none_serve asked (with_name names (service_in entry.binary)) entries none in
    let here = none_with_binary asked names entry.binary rest.0 in
    (here.0, (here.1, rest.1))

-- no entry offers it
offers-none : (init : ℕ) (asked : List ℕ) (entry : ListedEntry) → serves entry.binary asked ≡ false → offers init asked entry ≡ false
offers-none init asked entry none = rw (none, and-false entry.provides) (and-false (entry.home == init))

same : {A : Type 0} (b : Bool) (x : A) → cond b x x ≡ x
same true x = refl
same false x = refl

module _ (entries : List ListedEntry) (init : ℕ) where
  -- no target leads to a child for a service that no server of the list has
  way-none : (target : Target) (asked : List ℕ) → NoneServe asked entries → lead_without target ≡ lead_of entries (way_to entries init target asked)
  way-none (Child name) asked none =
      let is : ListedEntry → Bool = λ entry. bytes_eq entry.name name && offers init asked entry in
      let fails : AllByRecursion (λ entry. is entry ≡ false) entries
      = all_then (λ entry. serves entry.binary asked ≡ false) (λ entry. is entry ≡ false) entries
      (λ entry no. ap (λ b. bytes_eq entry.name name && b) (offers-none init asked entry no) ∙ and-false (bytes_eq entry.name name)) none in
      sym (ap (λ found. lead_of entries (Inside found)) (position-none is entries fails))
  way-none AnyChild asked none =
      let fails : AllByRecursion (λ entry. offers init asked entry ≡ false) entries
      = all_then (λ entry. serves entry.binary asked ≡ false) (λ entry. offers init asked entry ≡ false) entries (offers-none init asked) none in
      sym (ap (λ found. lead_of entries (Inside (cond (count_by (offers init asked) entries == 1) found None))) (position-none (offers init asked) entries fails)
      ∙ ap (λ found. lead_of entries (Inside found)) (same {A = Option ℕ} (count_by (offers init asked) entries == 1) None))
  way-none Parent asked none = refl

  module _ (target : Target) where
    -- a rule for one service decides as what it comes to
    decides_for : (service asked : List ℕ) (b same_service : Bool) (lead : Lead) (way : Way) → (same_service ≡ true → service ≡ asked) → lead ≡ lead_of entries way →
        cond (same_service && b) (lead_of entries (way_to entries init target asked)) lead ≡ lead_of entries (cond (same_service && b) (way_to entries init target service) way)
    decides_for service asked true true lead way named after = rw (named refl) refl
    decides_for service asked true false lead way named after = after
    decides_for service asked false true lead way named after = after
    decides_for service asked false false lead way named after = after

-- what a rule asks of the label
labels_asked : ListedRule → List ℕ → Bool
labels_asked rule label =
    as_asked (bytes_eq label) rule.label && (as_asked (starts_with nat_eq label) rule.label_prefix && as_asked (ends_with nat_eq label) rule.label_suffix)

-- one more of some ways to the same
one_more : {A : Type 0} (b any asked : Bool) (to found rest after : A) → (b ≡ true → to ≡ found) → after ≡ cond (any && asked) found rest →
    cond (b && asked) to after ≡ cond ((b || any) && asked) found rest
one_more true any true to found rest after same is = same refl
one_more true true false to found rest after same is = is
one_more true false false to found rest after same is = is
one_more false any asked to found rest after same is = is

module _ (entries : List ListedEntry) (init : ℕ) (rule : ListedRule) (asked label : List ℕ) where
  -- where a rule of any service leads for this one
  abbrev leads : Lead
  leads = lead_of entries (way_to entries init rule.target asked)

  -- of its rules, one for each of some services, the one of this service decides, if it is among them
  decides_among : (among : List (List ℕ)) (rest : List Rule) →
      decided (map (own_rule_for entries init rule) among ++ rest) asked label
      ≡ cond (list_any (bytes_eq asked) among && labels_asked rule label) leads (decided rest asked label)
  unfolding labels_asked
  decides_among [] rest = refl
  decides_among (service ∷ among) rest =
      one_more (bytes_eq asked service) (list_any (bytes_eq asked) among) (labels_asked rule label)
      (lead_of entries (way_to entries init rule.target service)) leads (decided rest asked label)
      (decided (map (own_rule_for entries init rule) among ++ rest) asked label)
      (λ is. ap (λ s. lead_of entries (way_to entries init rule.target s)) (sym ((bytes_eq-Decides asked service).0 is))) (decides_among among rest)

  -- and where it isn't, the one of every other service
  decides_any : (any by_label : Bool) (lead : Lead) (way : Way) → list_any (bytes_eq asked) (services_of entries) ≡ any → lead ≡ lead_of entries way →
      cond (any && by_label) leads (cond by_label (lead_without rule.target) lead) ≡ lead_of entries (cond by_label (way_to entries init rule.target asked) way)
  decides_any true true lead way is after = refl
  decides_any true false lead way is after = after
  decides_any false true lead way is after = way-none entries init rule.target asked (none_serve asked (map service_name services) entries is).1
  decides_any false false lead way is after = after

-- by cases on what the first rule asks of the service
first_decides : (entries : List ListedEntry) (init : ℕ) (rule : ListedRule) (asked : Option (List ℕ)) (service label : List ℕ) (rest : List Rule) (way : Way) →
    decided rest service label ≡ lead_of entries way →
    decided (own_rules_asking entries init rule asked ++ rest) service label
    ≡ lead_of entries (cond (as_asked (bytes_eq service) asked && labels_asked rule label) (way_to entries init rule.target service) way)
unfolding labels_asked
first_decides entries init rule (Some asked) service label rest way after = grind (arith, nat_tests, decides_for, labels_asked, bytes_eq-Decides)
first_decides entries init rule None service label rest way after =
    ap (λ rules. decided rules service label) (append_assoc (map (own_rule_for entries init rule) (services_of entries)) (own_rule rule None (lead_without rule.target) ∷ []) rest)
    ∙ decides_among entries init rule service label (services_of entries) (own_rule rule None (lead_without rule.target) ∷ rest)
    ∙ decides_any entries init rule service label (list_any (bytes_eq service) (services_of entries)) (labels_asked rule label) (decided rest service label) way refl after

-- so a list's rules lead the way that they decide
rules_decide : (entries : List ListedEntry) (init : ℕ) (rules : List ListedRule) (service label : List ℕ) →
    decided (own_rules entries init rules) service label ≡ lead_of entries (way_by entries init rules service label)
unfolding labels_asked
rules_decide entries init [] service label = refl
rules_decide entries init (rule ∷ rules) service label =
    first_decides entries init rule rule.service service label (own_rules entries init rules) (way_by entries init rules service label) (rules_decide entries init rules service label)

-- a lead to a server, if there is one, ends there
leads_there : (to outward : Option ServerAt) → led_to (lead_to to) outward ≡ to
leads_there (Some server) outward = refl
leads_there None outward = refl

-- a lead ends where its way does, if it does so outward
ends_there : (entries : List ListedEntry) (way : Way) (outward : Option ServerAt) (child : Option ℕ) → outward ≡ option_and_then (server_at entries) child →
    led_to (lead_of entries way) outward ≡ option_and_then (server_at entries) (end_of way child)
ends_there entries (Inside found) outward child after = leads_there (option_and_then (server_at entries) found) outward
ends_there entries Outside outward child after = after

-- outward is an init, if there is one, whose wish leads on
leads_outward : (lists : ℕ) (list : Listed) (init : Option ListedEntry) (service label : List ℕ) →
    ((entry : ListedEntry) → provider (levels_within lists list entry) service label ≡ option_and_then (server_at list.entries) (route_within lists list entry service label)) →
    provider (unwrap_or (option_map (levels_within lists list) init) []) service label
    ≡ option_and_then (server_at list.entries) (option_and_then (λ entry. route_within lists list entry service label) init)
leads_outward lists list (Some entry) service label each = each entry
leads_outward lists list None service label each = refl

-- list by list outward
pub routes_lead : RoutesLeadToProviders
routes_lead zero list entry service label = refl
routes_lead (suc lists) list entry service label =
    let given : List ℕ = label_with entry.name label in
    let init : Option ListedEntry = init_entry list entry.home in
    let levels : List Level = unwrap_or (option_map (levels_within lists list) init) [] in
    ap (λ lead. led_to lead (provider levels service given)) (rules_decide list.entries entry.home (rules_for list entry) service label)
    ∙ ends_there list.entries (way_by list.entries entry.home (rules_for list entry) service label) (provider levels service given)
    (option_and_then (λ (init : ListedEntry). route_within lists list init service given) init)
    (leads_outward lists list init service given (λ outer. routes_lead lists list outer service given))
