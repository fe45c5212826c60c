-- Labels that agree with what rules ask are decided by the same rules.
use Rattle.std.proofs.Common.{◌≡◌, ℕ, ◌<◌, zero, suc, ◌+◌, Bool, true, false, List, [], ◌∷◌, ◌++◌, length, Option, Some, None, refl, sym, ap, ◌∙◌}
use Rattle.std.specs.Prelude.{flat_map, if◌then◌else◌, nat_lt, not, position}
use Rattle.std.specs.List.{list_all, prefix_len, slice_get}
use Rattle.std.specs.Option.{option_map, unwrap_or}
use Rattle.std.proofs.lemmas.Bool.{and_parts}
use Rattle.own_model.specs.Routes.{label_with}
use Rattle.own_model.specs.Listed.{Listed, ListedEntry, ListedRule, asks_for, init_entry, most_lists, rules_for}
use Rattle.list_labels.specs.Asked.{agrees, agrees_within, behind, rule_agrees}
use Rattle.list_labels.specs.DecidingRules.{decided, decision_of}
use Rattle.list_labels.specs.RouteSteps.{RouteStepAt, route_steps_of, route_steps_within, leads_out}
use Rattle.list_labels.proofs.AskedLemmas.{as_is, behind_is, behind_long}
use Rattle.list_labels.proofs.RuleLemmas.{places_of}

before_alike : (service opened seen other end : List ℕ) (rules : List ListedRule)
    → list_all (rule_agrees service opened seen end) rules ≡ true → list_all (rule_agrees service opened other end) rules ≡ true
    → prefix_len (λ rule. not (asks_for rule service seen)) rules ≡ prefix_len (λ rule. not (asks_for rule service other)) rules
before_alike service opened seen other end [] one two = refl
before_alike service opened seen other end (rule ∷ rules) one two =
    let first = and_parts (rule_agrees service opened seen end rule) _ one in
    let second = and_parts (rule_agrees service opened other end rule) _ two in
    let same : asks_for rule service seen ≡ asks_for rule service other = as_is _ _ first.0 ∙ sym (as_is _ _ second.0) in
    let others = before_alike service opened seen other end rules first.1 second.1 in
    ap (λ t. if not t then 1 + prefix_len (λ rule. not (asks_for rule service seen)) rules else 0) same
    ∙ ap (λ n. if not (asks_for rule service other) then 1 + n else 0) others

-- the first rule that matches is the same
first_alike : (service opened seen other end : List ℕ) (rules : List ListedRule)
    → list_all (rule_agrees service opened seen end) rules ≡ true → list_all (rule_agrees service opened other end) rules ≡ true
    → position (λ rule. asks_for rule service seen) rules ≡ position (λ rule. asks_for rule service other) rules
first_alike service opened seen other end rules one two =
    ap (λ n. if nat_lt n (length rules) then Some n else None) (before_alike service opened seen other end rules one two)

hops_out : (lists : ℕ) (list : Listed) (name service opened seen other end : List ℕ) (out : Bool) (outer : Option ListedEntry)
    → 0 < length seen → 0 < length other
    → ((init : ListedEntry) → agrees_within lists list init service (behind name opened) (behind name seen) end ≡ true
    → agrees_within lists list init service (behind name opened) (behind name other) end ≡ true
    → places_of (route_steps_within lists list init service (behind name seen)) ≡ places_of (route_steps_within lists list init service (behind name other)))
    → unwrap_or (option_map (λ init. agrees_within lists list init service (behind name opened) (behind name seen) end) outer) true ≡ true
    → unwrap_or (option_map (λ init. agrees_within lists list init service (behind name opened) (behind name other) end) outer) true ≡ true
    → places_of (if out then unwrap_or (option_map (λ init. route_steps_within lists list init service (label_with name seen)) outer) [] else [])
    ≡ places_of (if out then unwrap_or (option_map (λ init. route_steps_within lists list init service (label_with name other)) outer) [] else [])
hops_out lists list name service opened seen other end false outer some more each one two = refl
hops_out lists list name service opened seen other end true None some more each one two = refl
hops_out lists list name service opened seen other end true (Some init) some more each one two =
    ap (λ t. places_of (route_steps_within lists list init service t)) (behind_is name seen some)
    ∙ (each init one two ∙ ap (λ t. places_of (route_steps_within lists list init service t)) (sym (behind_is name other more)))

hops_alike : (lists : ℕ) (list : Listed) (entry : ListedEntry) (service opened seen other end : List ℕ)
    → 0 < length seen → 0 < length other
    → agrees_within lists list entry service opened seen end ≡ true → agrees_within lists list entry service opened other end ≡ true
    → places_of (route_steps_within lists list entry service seen) ≡ places_of (route_steps_within lists list entry service other)
hops_alike zero list entry service opened seen other end some more one two = refl
hops_alike (suc lists) list entry service opened seen other end some more one two =
    let first = and_parts (list_all (rule_agrees service opened seen end) (rules_for list entry)) _ one in
    let second = and_parts (list_all (rule_agrees service opened other end) (rules_for list entry)) _ two in
    let here = first_alike service opened seen other end (rules_for list entry) first.0 second.0 in
    let out = hops_out lists list entry.name service opened seen other end
    (leads_out (rules_for list entry) (position (λ rule. asks_for rule service other) (rules_for list entry)))
    (init_entry list entry.home) some more
    (λ init agreeing others. hops_alike lists list init service (behind entry.name opened) (behind entry.name seen) (behind entry.name other) end
    (behind_long entry.name seen some) (behind_long entry.name other more) agreeing others)
    first.1 second.1 in
    ap (λ p. decided p ++ places_of (if leads_out (rules_for list entry) p
    then unwrap_or (option_map (λ init. route_steps_within lists list init service (label_with entry.name seen)) (init_entry list entry.home)) []
    else [])) here
    ∙ ap (λ t. decided (position (λ rule. asks_for rule service other) (rules_for list entry)) ++ t) out

trail_case : (list : Listed) (service front label other end : List ℕ) (entry : Option ListedEntry) → 0 < length label → 0 < length other
    → unwrap_or (option_map (λ entry. agrees_within most_lists list entry service front label end) entry) true ≡ true
    → unwrap_or (option_map (λ entry. agrees_within most_lists list entry service front other end) entry) true ≡ true
    → places_of (unwrap_or (option_map (λ entry. route_steps_within most_lists list entry service label) entry) [])
    ≡ places_of (unwrap_or (option_map (λ entry. route_steps_within most_lists list entry service other) entry) [])
trail_case list service front label other end None some more one two = refl
trail_case list service front label other end (Some entry) some more one two =
    hops_alike most_lists list entry service front label other end some more one two

pub decided_alike : (list : Listed) (client : ℕ) (service front label other end : List ℕ) → 0 < length label → 0 < length other
    → agrees list client service front label end ≡ true → agrees list client service front other end ≡ true
    → decision_of list client service label ≡ decision_of list client service other
unfolding agrees route_steps_of decision_of
decided_alike list client service front label other end some more one two =
    trail_case list service front label other end (slice_get list.entries client) some more one two
