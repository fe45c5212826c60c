-- The conditions of a client's rules on a label that isn't empty: how it begins and ends, or the whole label.
use Rattle.std.specs.Prelude.{ℕ, ◌-◌, zero, suc, Bool, true, false, not, ◌&&◌, ◌||◌, List, [], ◌∷◌, ◌++◌, length, drop, take, codes, nat_eq, nat_le, nat_lt, if◌then◌else◌, Option, Some, None}
use Rattle.std.specs.List.{list_all, list_any, starts_with, ends_with, slice_get}
use Rattle.std.specs.Option.{option_map, unwrap_or}
use Rattle.std.specs.Str.{bytes_eq}
use Rattle.own_model.specs.SessionArgs.{is_quotable}
use Rattle.own_model.specs.Routes.{as_asked}
use Rattle.own_model.specs.Listed.{Listed, ListedEntry, ListedRule, asks_for, init_entry, most_lists, rules_for}
use Rattle.list_labels.specs.LabelRanges.{AskedLabel}

-- a text before the text after the arrow
abbrev pub behind : List ℕ → List ℕ → List ℕ
behind name text = name ++ codes " -> " ++ text

-- a text is a label that can be given
abbrev pub is_given : List ℕ → Bool
is_given text = nat_le (length text) 64 && list_all is_quotable text

-- the text that is asked, or the empty one
abbrev pub text_of : Option (List ℕ) → List ℕ
text_of None = []
text_of (Some asked) = asked

abbrev pub asks_nothing : Option (List ℕ) → Bool
asks_nothing None = true
asks_nothing (Some asked) = false

-- both, where a given label can begin and end so
abbrev pub asked_texts : List ℕ → List ℕ → List AskedLabel
asked_texts front end = if is_given front && is_given end then record { front = front; end = end } ∷ [] else []

-- some text after these names begins with a text
abbrev pub can_begin : List ℕ → List ℕ → Bool
can_begin names asked = starts_with nat_eq names asked || starts_with nat_eq asked names

-- the condition of a rule on a label after these names, if the rule matches any
abbrev pub asked_of_rule : List ℕ → List ℕ → ListedRule → List AskedLabel
asked_of_rule service before rule =
    if as_asked (bytes_eq service) rule.service && (asks_nothing rule.label && can_begin before (text_of rule.label_prefix))
    then asked_texts (drop (length before) (text_of rule.label_prefix)) (text_of rule.label_suffix)
    else []

abbrev pub asked_by : List ℕ → List ℕ → List ListedRule → List AskedLabel
asked_by service before [] = []
asked_by service before (rule ∷ rules) = asked_of_rule service before rule ++ asked_by service before rules

-- the conditions of the rules for an entry and, through at most so many lists outward, of the rules for the inits above it
abbrev pub asked_within : ℕ → Listed → ListedEntry → List ℕ → List ℕ → List AskedLabel
asked_within zero list entry service before = []
asked_within (suc lists) list entry service before =
    asked_by service before (rules_for list entry)
    ++ unwrap_or (option_map (λ init. asked_within lists list init service (behind entry.name before)) (init_entry list entry.home)) []

-- the conditions of the rules for a client's requests
unfoldable pub asked_of : Listed → ℕ → List ℕ → List AskedLabel
asked_of list client service =
    unwrap_or (option_map (λ entry. asked_within most_lists list entry service []) (slice_get list.entries client)) []

-- ---- which rules match

-- a rule matches each long enough label that begins and ends so
abbrev pub is_open : ListedRule → List ℕ → List ℕ → List ℕ → Bool
is_open rule service opened end =
    as_asked (bytes_eq service) rule.service
    && (asks_nothing rule.label
    && (as_asked (starts_with nat_eq opened) rule.label_prefix && as_asked (ends_with nat_eq end) rule.label_suffix))

abbrev pub same_as : Bool → Bool → Bool
same_as true b = b
same_as false b = not b

-- a rule matches the bytes seen just if it is open
abbrev pub rule_agrees : List ℕ → List ℕ → List ℕ → List ℕ → ListedRule → Bool
rule_agrees service opened seen end rule = same_as (asks_for rule service seen) (is_open rule service opened end)

-- so do all rules that are asked
abbrev pub agrees_within : ℕ → Listed → ListedEntry → List ℕ → List ℕ → List ℕ → List ℕ → Bool
agrees_within zero list entry service opened seen end = true
agrees_within (suc lists) list entry service opened seen end =
    list_all (rule_agrees service opened seen end) (rules_for list entry)
    && unwrap_or (option_map (λ init. agrees_within lists list init service (behind entry.name opened) (behind entry.name seen) end) (init_entry list entry.home)) true

unfoldable pub agrees : Listed → ℕ → List ℕ → List ℕ → List ℕ → List ℕ → Bool
agrees list client service front label end =
    unwrap_or (option_map (λ entry. agrees_within most_lists list entry service front label end) (slice_get list.entries client)) true

-- ---- labels that a rule knows by themselves

-- an end that is asked is a part of the names before the label, followed by the label
abbrev pub is_tail : List ℕ → List ℕ → Option (List ℕ) → Bool
is_tail before label None = false
is_tail before label (Some asked) =
    nat_lt (length label) (length asked)
    && (ends_with nat_eq asked label && ends_with nat_eq before (take (length asked - length label) asked))

abbrev pub is_whole : List ℕ → List ℕ → Option (List ℕ) → Bool
is_whole before label None = false
is_whole before label (Some asked) = bytes_eq asked (before ++ label)

-- a rule for the service knows a label by itself
abbrev pub is_known : List ℕ → List ℕ → List ℕ → ListedRule → Bool
is_known service before label rule =
    as_asked (bytes_eq service) rule.service
    && (is_whole before label rule.label || is_tail before label rule.label_suffix)

abbrev pub known_within : ℕ → Listed → ListedEntry → List ℕ → List ℕ → List ℕ → Bool
known_within zero list entry service before label = false
known_within (suc lists) list entry service before label =
    list_any (is_known service before label) (rules_for list entry)
    || unwrap_or (option_map (λ init. known_within lists list init service (behind entry.name before) label) (init_entry list entry.home)) false

unfoldable pub known : Listed → ℕ → List ℕ → List ℕ → Bool
known list client service label =
    unwrap_or (option_map (λ entry. known_within most_lists list entry service [] label) (slice_get list.entries client)) false
