-- Where a start list routes the requests of a script, by the script's path.
use Rattle.std.specs.Prelude.{ℕ, List, if◌then◌else◌, Option, Some, None}
use Rattle.std.specs.List.{slice_get}
use Rattle.own_model.specs.Listed.{Listed, ListedEntry}
use Rattle.list_parser.specs.Depth.{runs_script}
use Rattle.list_labels.specs.GivenLabels.{leads_to}
use Rattle.list_diff.specs.Changes.{place_of}

-- a script, and a server of a service
pub record Pair : Type 0 where
  pub client : ListedEntry
  pub service : List ℕ
  pub server : ListedEntry

-- where a list routes the requests of an entry, by its number, if the entry is a script
abbrev pub routes_from : Listed → List ℕ → List ℕ → ℕ → Option ListedEntry → Option ℕ
routes_from list service label client None = None
routes_from list service label client (Some entry) = if runs_script entry.binary then leads_to list client service label else None

abbrev pub routes_at : Listed → List ℕ → List ℕ → Option ℕ → Option ℕ
routes_at list service label None = None
routes_at list service label (Some client) = routes_from list service label client (slice_get list.entries client)

-- where a list routes a request for a service with a label, of the script of a path
abbrev pub routes : Listed → List ℕ → List ℕ → List ℕ → Option ℕ
routes list path service label = routes_at list service label (place_of list path)
