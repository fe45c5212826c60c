-- The rules of a route path as text.
use Rattle.std.specs.Prelude.{ℕ, Bool, true, false, List, [], ◌∷◌, ◌++◌, codes, decimal, Option, Some, None}
use Rattle.std.specs.List.{slice_get}
use Rattle.own_model.specs.Listed.{Listed, ListedEntry, init_entry}
use Rattle.list_parser.specs.Labels.{route_name}
use Rattle.list_labels.specs.RouteSteps.{RouteStepAt}
use Rattle.list_reach.specs.declared.route_path.RoutePath.{RoutePath}
use Rattle.list_reach.specs.declared.route_summary.RouteSummary.{RouteSummary}

-- a rule for an entry by its place, or that there is none
abbrev pub rule_text : ListedEntry → Option ℕ → List ℕ
rule_text entry None = codes "no rule"
rule_text entry (Some place) = route_name entry ++ codes "[" ++ decimal place ++ codes "]"

-- with the path of the entry
abbrev pub entry_rule_text : ListedEntry → Option ℕ → List ℕ
entry_rule_text entry rule = rule_text entry rule ++ codes " for " ++ entry.path

-- the rule of a step: the first one is for the client, and each later one has the init that it is for
abbrev pub step_text : ListedEntry → Option ℕ → Bool → List ℕ
step_text entry rule true = rule_text entry rule
step_text entry rule false = codes ", then " ++ entry_rule_text entry rule

-- the rules of steps, from an entry outward
abbrev pub steps_text : Listed → Option ListedEntry → Bool → List RouteStepAt → List ℕ
steps_text list entry is_first [] = []
steps_text list None is_first (step ∷ steps) = []
steps_text list (Some entry) is_first (step ∷ steps) =
    step_text entry step.rule is_first ++ steps_text list (init_entry list entry.home) false steps

-- the rules of a route path, from the client's own list outward
abbrev pub summary_text : RoutePath → List ℕ
summary_text course = steps_text course.list.now (slice_get course.list.now.entries course.client) true course.hops.items

-- the route path of a summary
abbrev pub summarized : RouteSummary → RoutePath
summarized summary = summary.course.now
