-- Which rules decide to which entry a request is routed, list by list outward.
use Rattle.std.specs.Prelude.{ℕ, zero, suc, Bool, false, List, [], ◌∷◌, if◌then◌else◌, position, Option, Some, None}
use Rattle.std.specs.List.{slice_get}
use Rattle.std.specs.Option.{option_map, unwrap_or}
use Rattle.own_model.specs.Routes.{label_with}
use Rattle.own_model.specs.Listed.{Listed, ListedEntry, ListedRule, asks_for, init_entry, most_lists, rules_for}
use Rattle.list_parser.specs.Labels.{is_parent}

-- the label as a list's rules see it, and the place of the first of them that matches, if one does
pub record RouteStepAt : Type 0 where
  pub seen : List ℕ
  pub rule : Option ℕ

-- the rule at a place routes outward
abbrev pub leads_out : List ListedRule → Option ℕ → Bool
leads_out rules None = false
leads_out rules (Some place) = unwrap_or (option_map (λ rule. is_parent rule.target) (slice_get rules place)) false

-- the steps by the rules for an entry and, if these route outward, by those for its init, through at most so many lists
abbrev pub route_steps_within : ℕ → Listed → ListedEntry → List ℕ → List ℕ → List RouteStepAt
route_steps_within zero list entry service seen = []
route_steps_within (suc lists) list entry service seen =
    record { seen = seen; rule = position (λ rule. asks_for rule service seen) (rules_for list entry) }
    ∷ (if leads_out (rules_for list entry) (position (λ rule. asks_for rule service seen) (rules_for list entry))
    then unwrap_or (option_map (λ init. route_steps_within lists list init service (label_with entry.name seen)) (init_entry list entry.home)) []
    else [])

-- the steps of a client's request
unfoldable pub route_steps_of : Listed → ℕ → List ℕ → List ℕ → List RouteStepAt
route_steps_of list client service label =
    unwrap_or (option_map (λ entry. route_steps_within most_lists list entry service label) (slice_get list.entries client)) []
