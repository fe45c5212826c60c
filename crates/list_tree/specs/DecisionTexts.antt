-- The rules of a decision as text, list by list outward, with their conditions on the label.
use Rattle.std.specs.Prelude.{ℕ, Bool, true, false, List, [], ◌∷◌, ◌++◌, codes, if◌then◌else◌, Option, Some, None}
use Rattle.std.specs.List.{slice_get}
use Rattle.own_model.specs.Listed.{Listed, ListedEntry, ListedRule, init_entry, rules_for}
use Rattle.list_labels.specs.RouteSteps.{leads_out}
use Rattle.list_parts.specs.QuotedTexts.{quoted_text}
use Rattle.list_reach.specs.RuleTexts.{rule_text}

-- a condition on the label, if a rule asks for one
abbrev pub condition_text : List ℕ → Option (List ℕ) → List ℕ
condition_text how None = []
condition_text how (Some text) = codes ", where the label" ++ (how ++ quoted_text false text)

-- the conditions of a rule, if there is one
abbrev pub conditions_text : Option ListedRule → List ℕ
conditions_text None = []
conditions_text (Some rule) =
    condition_text (codes " is ") rule.label
    ++ (condition_text (codes " begins with ") rule.label_prefix ++ condition_text (codes " ends with ") rule.label_suffix)

-- a rule for an entry, or that there is none; the first one is of the client's own list, and each later one has the entry
abbrev pub rule_by : Bool → ListedEntry → Option ℕ → List ℕ
rule_by true entry place = rule_text entry place
rule_by false entry place = codes ", then by " ++ (rule_text entry place ++ (codes " for " ++ entry.path))

-- with its conditions
abbrev pub placed_text : Bool → Listed → ListedEntry → ℕ → List ℕ
placed_text is_first list entry place =
    rule_by is_first entry (Some place) ++ conditions_text (slice_get (rules_for list entry) place)

-- the init that asks after a rule for an entry that routes outward, if it isn't the machine's
abbrev pub outward : Listed → ListedEntry → ℕ → Option ListedEntry
outward list entry place = if leads_out (rules_for list entry) (Some place) then init_entry list entry.home else None

-- rules by their places: the first one for an entry, each other one for the init that asks after the one before
abbrev pub rules_text : Bool → Listed → Option ListedEntry → List ℕ → List ℕ
rules_text is_first list None places = []
rules_text is_first list (Some entry) [] = rule_by is_first entry None
rules_text is_first list (Some entry) (place ∷ places) =
    placed_text is_first list entry place ++ rules_text false list (outward list entry place) places
