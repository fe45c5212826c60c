-- All paths from selected scripts to selected servers.
use Rattle.std.specs.Prelude.{◌≡◌, ℕ, Bool, List, [], ◌∷◌, map, if◌then◌else◌, Option, Some, None, All}
use Rattle.std.specs.List.{flat_map}
use Rattle.std.specs.Option.{option_and_then, option_map_or}
use Rattle.own_model.specs.Listed.{Listed}
use Rattle.list_reach.specs.Additions.{AddsBy}
use Rattle.list_reach.specs.Deciding.{DecisionAt}
use Rattle.list_reach.specs.ScriptDecisions.{AreAllDecisions}
use Rattle.list_reach.specs.Table.{IsReachPath}
use Rattle.list_reach.specs.declared.reach_path_list.ReachPath.{ReachPath}
use Rattle.list_reach.specs.declared.script_decisions.ScriptDecisions.{ScriptDecisions}

-- a script, a service, a label, and the server to which that request is routed
pub record Reached : Type 0 where
  pub client : ℕ
  pub service : List ℕ
  pub label : List ℕ
  pub server : ℕ

abbrev pub reached_by : ReachPath → Reached
reached_by way = record { client = way.client; service = way.service.now; label = way.label; server = way.server }

-- the server to which a decision routes, if it is selected
abbrev pub selected_child : (ℕ → Bool) → Option ℕ → Option ℕ
selected_child servers child = option_and_then (λ server. if servers server then Some server else None) child

-- what a decision on a script's requests for a service reaches, if that is selected
abbrev pub reached : (ℕ → Bool) → ℕ → List ℕ → DecisionAt → List Reached
reached servers client service decision =
    option_map_or (λ server. record { client = client; service = service; label = decision.label; server = server } ∷ [])
    (selected_child servers decision.child) []

abbrev pub reached_of : (ℕ → Bool) → ScriptDecisions → List Reached
reached_of servers one = flat_map (reached servers one.client one.service.now) one.decisions

-- paths for these are added, and each is one by the rules of its label
abbrev pub AddsPaths : Listed → List ReachPath → List Reached → List ReachPath → Type 0
AddsPaths list old more new = AddsBy reached_by (IsReachPath list) old more new

-- the paths are those of all decisions on all requests of the selected scripts that route to a selected server, in order
pub record AreAllPaths (list : Listed) (scripts servers : ℕ → Bool) (ways : List ReachPath) : Type 0 where
  pub decisions : List ScriptDecisions
  pub decided : AreAllDecisions list scripts decisions
  pub reached : map reached_by ways ≡ flat_map (reached_of servers) decisions
  pub told : All (IsReachPath list) ways
