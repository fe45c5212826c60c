-- The requests of all selected scripts for every service, and the decisions on them.
use Rattle.std.specs.Prelude.{◌≡◌, ℕ, ◌<◌, ◌&&◌, Bool, true, List, [], length, map, if◌then◌else◌, Some, All}
use Rattle.std.specs.List.{enumerate_from, flat_map, slice_get}
use Rattle.own_model.specs.Listed.{Listed, ListedEntry, services_of}
use Rattle.list_parser.specs.Depth.{runs_script}
use Rattle.list_reach.specs.Additions.{AddsBy}
use Rattle.list_reach.specs.Deciding.{AreDecisions}
use Rattle.list_reach.specs.declared.script_decisions.ScriptDecisions.{ScriptDecisions}

-- a script by its number, and a service for which it can ask
pub record Asking : Type 0 where
  pub client : ℕ
  pub entry : ListedEntry
  pub service : List ℕ

-- the script is an entry of a list
abbrev pub IsAsking : Listed → Asking → Type 0
IsAsking list asking = slice_get list.entries asking.client ≡ Some asking.entry

-- an entry, by its number, can ask for each of these services if it is a selected script
abbrev pub entry_askings : List (List ℕ) → (ℕ → Bool) → ℕ × ListedEntry → List Asking
entry_askings services scripts entry =
    if scripts entry.0 && runs_script entry.1.binary
    then map (λ service. record { client = entry.0; entry = entry.1; service = service }) services else []

abbrev pub askings : Listed → (ℕ → Bool) → List Asking
askings list scripts = flat_map (entry_askings (services_of list.entries) scripts) (enumerate_from 0 list.entries)

abbrev pub asking_of : ScriptDecisions → Asking
asking_of one = record { client = one.client; entry = one.entry.now; service = one.service.now }

-- the decisions are those on a component's requests for a service
pub record IsDecided (list : Listed) (one : ScriptDecisions) : Type 0 where
  pub within : one.client < length list.entries
  pub entry : slice_get list.entries one.client ≡ Some one.entry.now
  pub decisions : AreDecisions list one.client one.service.now one.decisions

-- decisions for these askings are added, and all are decisions
abbrev pub AddsDecisions : Listed → List ScriptDecisions → List Asking → List ScriptDecisions → Type 0
AddsDecisions list old more new = AddsBy asking_of (IsDecided list) old more new

-- these are asked, in order, and each has its decisions
pub record AreDecisionsOn (list : Listed) (all : List Asking) (found : List ScriptDecisions) : Type 0 where
  pub asked : map asking_of found ≡ all
  pub decided : All (IsDecided list) found

-- each selected script has its decisions for each service
abbrev pub AreAllDecisions : Listed → (ℕ → Bool) → List ScriptDecisions → Type 0
AreAllDecisions list scripts found = AreDecisionsOn list (askings list scripts) found

-- an entry, by its number, has its decisions for each service if it is a script
abbrev pub AreEntryDecisions : Listed → ℕ × ListedEntry → List ScriptDecisions → Type 0
AreEntryDecisions list entry found = AreDecisionsOn list (entry_askings (services_of list.entries) (λ client. true) entry) found
