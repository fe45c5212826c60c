-- What a table has rows for: each selected script, each service, and each selected server that provides it.
use Rattle.std.specs.Prelude.{ℕ, ◌&&◌, Bool, List, [], ◌∷◌, if◌then◌else◌}
use Rattle.std.specs.List.{enumerate_from, flat_map}
use Rattle.own_model.specs.Listed.{Listed, ListedEntry, offers}
use Rattle.list_reach.specs.Additions.{AddsBy}
use Rattle.list_reach.specs.ScriptDecisions.{Asking, askings}
use Rattle.list_reach.specs.Table.{IsTrue}
use Rattle.list_reach.specs.declared.reach_cell.ReachCell.{ReachCell}

-- a script, a service, and a server
pub record Row : Type 0 where
  pub client : ℕ
  pub service : List ℕ
  pub server : ℕ

abbrev pub row_of : ReachCell → Row
row_of cell = record { client = cell.client; service = cell.service.now; server = cell.server }

-- an entry, by its number, has a row if it is a selected server that provides the service
abbrev pub provider_rows : (ℕ → Bool) → ℕ → List ℕ → ℕ × ListedEntry → List Row
provider_rows servers client service entry =
    if servers entry.0 && offers entry.1.home service entry.1 then record { client = client; service = service; server = entry.0 } ∷ []
    else []

-- a script's rows for a service, server by server
abbrev pub service_rows : Listed → (ℕ → Bool) → ℕ → List ℕ → List Row
service_rows list servers client service =
    flat_map (provider_rows servers client service) (enumerate_from 0 list.entries)

-- the rows for a script's requests
abbrev pub asking_rows : Listed → (ℕ → Bool) → Asking → List Row
asking_rows list servers asking = service_rows list servers asking.client asking.service

-- the rows of a table, script by script, and for each script service by service
abbrev pub rows : Listed → (ℕ → Bool) → (ℕ → Bool) → List Row
rows list scripts servers = flat_map (asking_rows list servers) (askings list scripts)

-- cells for these rows are added, and each cell is true
abbrev pub AddsRows : Listed → List ReachCell → List Row → List ReachCell → Type 0
AddsRows list old more new = AddsBy row_of (IsTrue list) old more new
