-- Labels that are decided by the same rules are routed to the same entry.
use Rattle.std.proofs.Common.{◌≡◌, ℕ, ◌+◌, ◌≤◌, zero, suc, Bool, true, false, List, [], ◌∷◌, ◌++◌, length, Option, Some, None, refl, sym, ap, ◌∙◌, arith, nat_lt}
use Rattle.std.specs.Prelude.{flat_map, if◌then◌else◌, not, position}
use Rattle.std.specs.List.{prefix_len, slice_get}
use Rattle.std.specs.Option.{option_and_then, option_map, unwrap_or}
use Rattle.std.proofs.lemmas.Bool.Decides.{nat_tests}
use Rattle.std.proofs.lemmas.Option.{slice_get_past}
use Rattle.own_model.specs.Routes.{label_with}
use Rattle.own_model.specs.Listed.{Listed, ListedEntry, ListedRule, Target, Way, asks_for, end_of, init_entry, most_lists, route_within, rules_for, way_by, way_to}
use Rattle.own_model.specs.Listed.Target.{Child, AnyChild, Parent}
use Rattle.own_model.specs.Listed.Way.{Inside, Outside}
use Rattle.list_parser.specs.Labels.{is_parent}
use Rattle.list_labels.specs.DecidingRules.{decided, decision_of}
use Rattle.list_labels.specs.GivenLabels.{leads_to}
use Rattle.list_labels.specs.RouteSteps.{RouteStepAt, leads_out, route_steps_of, route_steps_within}

-- the places of the rules of steps
abbrev pub places_of : List RouteStepAt → List ℕ
places_of steps = flat_map (λ (step : RouteStepAt). decided step.rule) steps

-- ---- the rule that decides

-- where a rule routes, if there is one
abbrev way_in : List ListedEntry → ℕ → List ℕ → Option ListedRule → Way
way_in entries init service None = Inside None
way_in entries init service (Some rule) = way_to entries init rule.target service

abbrev rule_at : List ListedRule → Option ℕ → Option ListedRule
rule_at rules place = option_and_then (λ at. slice_get rules at) place

one_more : (n : ℕ) → suc n ≡ 1 + n
one_more n = omega arith

way_more : (entries : List ListedEntry) (init : ℕ) (service label : List ℕ) (rule : ListedRule) (rules : List ListedRule) (n : ℕ) (asks : Bool)
    → way_by entries init rules service label ≡ way_in entries init service (slice_get rules n)
    → (if asks then way_to entries init rule.target service else way_by entries init rules service label)
    ≡ way_in entries init service (slice_get (rule ∷ rules) (if not asks then 1 + n else 0))
way_more entries init service label rule rules n true rest = refl
way_more entries init service label rule rules n false rest =
    rest ∙ ap (λ at. way_in entries init service (slice_get (rule ∷ rules) at)) (one_more n)

way_first : (entries : List ListedEntry) (init : ℕ) (service label : List ℕ) (rules : List ListedRule)
    → way_by entries init rules service label
    ≡ way_in entries init service (slice_get rules (prefix_len (λ rule. not (asks_for rule service label)) rules))
way_first entries init service label [] = refl
way_first entries init service label (rule ∷ rules) =
    way_more entries init service label rule rules (prefix_len (λ rule. not (asks_for rule service label)) rules)
    (asks_for rule service label) (way_first entries init service label rules)

placed_by : (rules : List ListedRule) (n : ℕ) (b : Bool) → nat_lt n (length rules) ≡ b
    → slice_get rules n ≡ rule_at rules (if b then Some n else None)
placed_by rules n true is = refl
placed_by rules n false is =
    let past : length rules ≤ n = grind (arith, nat_tests) in
    slice_get_past rules n past

way_is : (entries : List ListedEntry) (init : ℕ) (service label : List ℕ) (rules : List ListedRule)
    → way_by entries init rules service label
    ≡ way_in entries init service (rule_at rules (position (λ rule. asks_for rule service label) rules))
way_is entries init service label rules =
    let n = prefix_len (λ rule. not (asks_for rule service label)) rules in
    way_first entries init service label rules
    ∙ ap (λ rule. way_in entries init service rule) (placed_by rules n (nat_lt n (length rules)) refl)

inside_to : (entries : List ListedEntry) (init : ℕ) (service : List ℕ) (target : Target) (one other : Option ℕ) → is_parent target ≡ false
    → end_of (way_to entries init target service) one ≡ end_of (way_to entries init target service) other
inside_to entries init service (Child name) one other inner = refl
inside_to entries init service AnyChild one other inner = refl
inside_to entries init service Parent one other inner = cc

-- a rule that doesn't route outward has the end of the route
inside : (entries : List ListedEntry) (init : ℕ) (service : List ℕ) (rule : Option ListedRule) (one other : Option ℕ)
    → unwrap_or (option_map (λ rule. is_parent rule.target) rule) false ≡ false
    → end_of (way_in entries init service rule) one ≡ end_of (way_in entries init service rule) other
inside entries init service None one other inner = refl
inside entries init service (Some rule) one other inner = inside_to entries init service rule.target one other inner

leads_out_is : (rules : List ListedRule) (place : Option ℕ)
    → unwrap_or (option_map (λ rule. is_parent rule.target) (rule_at rules place)) false ≡ leads_out rules place
leads_out_is rules None = refl
leads_out_is rules (Some place) = refl

-- ---- equal places

-- the first places are equal, and the others
first_and_rest : (one other : Option ℕ) (rest more : List ℕ) → (one ≡ None → rest ≡ []) → (other ≡ None → more ≡ [])
    → decided one ++ rest ≡ decided other ++ more → (one ≡ other) × (rest ≡ more)
first_and_rest None None rest more end ends same = (refl, same)
first_and_rest None (Some place) rest more end ends same = let none : rest ≡ [] = end refl in cc
first_and_rest (Some place) None rest more end ends same = let none : more ≡ [] = ends refl in cc
first_and_rest (Some place) (Some another) rest more end ends same = (cc, cc)

-- no rule decides, and the steps end
no_rest : (rules : List ListedRule) (place : Option ℕ) (steps : List RouteStepAt) → place ≡ None
    → places_of (if leads_out rules place then steps else []) ≡ []
no_rest rules None steps none = refl
no_rest rules (Some place) steps none = cc

-- outward, the same entry
out_same : (outer : Option ListedEntry) (steps others : ListedEntry → List RouteStepAt) (routes other : ListedEntry → Option ℕ)
    → ((init : ListedEntry) → places_of (steps init) ≡ places_of (others init) → routes init ≡ other init)
    → places_of (unwrap_or (option_map steps outer) []) ≡ places_of (unwrap_or (option_map others outer) [])
    → option_and_then routes outer ≡ option_and_then other outer
out_same None steps others routes other each same = refl
out_same (Some init) steps others routes other each same = each init same

-- what one list decides, and then the lists outward
one_list : (entries : List ListedEntry) (init : ℕ) (service : List ℕ) (rules : List ListedRule) (outer : Option ListedEntry)
    (place another : Option ℕ) (steps others : ListedEntry → List RouteStepAt) (routes other : ListedEntry → Option ℕ) (b : Bool)
    → ((entry : ListedEntry) → places_of (steps entry) ≡ places_of (others entry) → routes entry ≡ other entry)
    → place ≡ another
    → places_of (if leads_out rules place then unwrap_or (option_map steps outer) [] else [])
    ≡ places_of (if leads_out rules another then unwrap_or (option_map others outer) [] else [])
    → leads_out rules another ≡ b
    → end_of (way_in entries init service (rule_at rules place)) (option_and_then routes outer)
    ≡ end_of (way_in entries init service (rule_at rules another)) (option_and_then other outer)
one_list entries init service rules outer place another steps others routes other false each same rest inner =
    ap (λ p. end_of (way_in entries init service (rule_at rules p)) (option_and_then routes outer)) same
    ∙ inside entries init service (rule_at rules another) (option_and_then routes outer) (option_and_then other outer)
    (leads_out_is rules another ∙ inner)
one_list entries init service rules outer place another steps others routes other true each same rest leads =
    let here : leads_out rules place ≡ true = ap (λ p. leads_out rules p) same ∙ leads in
    let out : places_of (unwrap_or (option_map steps outer) []) ≡ places_of (unwrap_or (option_map others outer) []) =
    sym (ap (λ c. places_of (if c then unwrap_or (option_map steps outer) [] else [])) here)
    ∙ (rest ∙ ap (λ c. places_of (if c then unwrap_or (option_map others outer) [] else [])) leads) in
    ap (λ p. end_of (way_in entries init service (rule_at rules p)) (option_and_then routes outer)) same
    ∙ ap (λ o. end_of (way_in entries init service (rule_at rules another)) o) (out_same outer steps others routes other each out)

routed_within : (lists : ℕ) (list : Listed) (entry : ListedEntry) (service label other : List ℕ)
    → places_of (route_steps_within lists list entry service label) ≡ places_of (route_steps_within lists list entry service other)
    → route_within lists list entry service label ≡ route_within lists list entry service other
routed_within zero list entry service label other same = refl
routed_within (suc lists) list entry service label other same =
    let rules = rules_for list entry in
    let outer = init_entry list entry.home in
    let here = λ (text : List ℕ). position (λ rule. asks_for rule service text) rules in
    let steps = λ (text : List ℕ) (init : ListedEntry). route_steps_within lists list init service (label_with entry.name text) in
    let routes = λ (text : List ℕ) (init : ListedEntry). route_within lists list init service (label_with entry.name text) in
    let both = first_and_rest (here label) (here other)
    (places_of (if leads_out rules (here label) then unwrap_or (option_map (steps label) outer) [] else []))
    (places_of (if leads_out rules (here other) then unwrap_or (option_map (steps other) outer) [] else []))
    (no_rest rules (here label) (unwrap_or (option_map (steps label) outer) []))
    (no_rest rules (here other) (unwrap_or (option_map (steps other) outer) [])) same in
    ap (λ way. end_of way (option_and_then (routes label) outer)) (way_is list.entries entry.home service label rules)
    ∙ (one_list list.entries entry.home service rules outer (here label) (here other) (steps label) (steps other) (routes label) (routes other)
    (leads_out rules (here other))
    (λ init more. routed_within lists list init service (label_with entry.name label) (label_with entry.name other) more)
    both.0 both.1 refl
    ∙ sym (ap (λ way. end_of way (option_and_then (routes other) outer)) (way_is list.entries entry.home service other rules)))

routed_from : (list : Listed) (service label other : List ℕ) (entry : Option ListedEntry)
    → places_of (unwrap_or (option_map (λ entry. route_steps_within most_lists list entry service label) entry) [])
    ≡ places_of (unwrap_or (option_map (λ entry. route_steps_within most_lists list entry service other) entry) [])
    → option_and_then (λ entry. route_within most_lists list entry service label) entry
    ≡ option_and_then (λ entry. route_within most_lists list entry service other) entry
routed_from list service label other None same = refl
routed_from list service label other (Some entry) same = routed_within most_lists list entry service label other same

pub routed_by_rules : (list : Listed) (client : ℕ) (service label other : List ℕ)
    → decision_of list client service label ≡ decision_of list client service other
    → leads_to list client service label ≡ leads_to list client service other
unfolding route_steps_of decision_of leads_to
routed_by_rules list client service label other same = routed_from list service label other (slice_get list.entries client) same
