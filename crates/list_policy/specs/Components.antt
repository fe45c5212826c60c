-- The components that the paths of a line denote, path by path.
use Rattle.std.specs.Prelude.{ℕ, ◌+◌, Bool, false, List, [], ◌∷◌, ◌++◌, length, Some, None, Result, Ok, Err}
use Rattle.std.specs.List.{slice_get}
use Rattle.std.specs.Option.{option_map, unwrap_or}
use Rattle.own_model.specs.Listed.{Listed}
use Rattle.list_reach.specs.Paths.{NobodyHas, PathFault, numbers_below, numbers_of, selects, some_of, trimmed}
use Rattle.list_reach.specs.declared.component_numbers.ComponentKind.TheVariants.{Script as ScriptKind, Server as ServerKind}
use Rattle.list_policy.specs.Cuts.{blanks, plus}
use Rattle.list_policy.specs.Statement.{FlawAt, HasBadPath, flaw_at}
use Rattle.list_policy.specs.declared.components.NamedKind.{NamedKind}
use Rattle.list_policy.specs.declared.components.NamedKind.TheVariants.{Scripts, Servers, Any}
use Rattle.list_policy.specs.declared.components.PolicyPlace.{PolicyPlace}
use Rattle.list_policy.specs.declared.fault.PolicyFault.{PolicyFault}

-- a flaw, with its line and its column
pub record FaultAt : Type 0 where
  pub line : ℕ
  pub column : ℕ
  pub flaw : FlawAt

abbrev pub fault_at : PolicyFault → FaultAt
fault_at fault = record { line = fault.line; column = fault.column; flaw = flaw_at fault.flaw }

abbrev pub flaw_in : PolicyPlace → FlawAt → FaultAt
flaw_in place flaw = record { line = place.line; column = place.column; flaw = flaw }

-- the place so many bytes later
abbrev pub next_place : PolicyPlace → ℕ → PolicyPlace
next_place place bytes = record { line = place.line; column = plus place.column bytes }

-- a path denotes the component of a number
abbrev pub any_at : Listed → List ℕ → ℕ → Bool
any_at list path number = unwrap_or (option_map (λ entry. selects path entry.path) (slice_get list.entries number)) false

-- the numbers of all components of any kind that a path denotes
abbrev pub any_for : Listed → List ℕ → List ℕ
any_for list path = numbers_below (any_at list path) (length list.entries)

abbrev pub any_of : Listed → List ℕ → Result (List ℕ) PathFault
any_of list path = some_of (any_for list path) (NobodyHas path None)

-- the numbers that a path denotes, of a kind, or why it denotes none
abbrev pub named_at : Listed → NamedKind → List ℕ → Result (List ℕ) PathFault
named_at list Scripts path = numbers_of list ScriptKind path
named_at list Servers path = numbers_of list ServerKind path
named_at list Any path = any_of list (trimmed path)

abbrev pub flawed : Result (List ℕ) PathFault → Result (List ℕ) FlawAt
flawed (Ok numbers) = Ok numbers
flawed (Err fault) = Err (HasBadPath (Some fault))

-- the same with its flaw
abbrev pub read_at : Listed → NamedKind → List ℕ → Result (List ℕ) FlawAt
read_at list kind path = flawed (named_at list kind path)

abbrev pub numbers_in : Result (List ℕ) FlawAt → List ℕ
numbers_in (Ok numbers) = numbers
numbers_in (Err flaw) = []

abbrev pub fault_in : PolicyPlace → Result (List ℕ) FlawAt → List FaultAt
fault_in place (Ok numbers) = []
fault_in place (Err flaw) = flaw_in place flaw ∷ []

-- the numbers of paths, one path after the other
abbrev pub found_in : Listed → NamedKind → List (List ℕ) → List ℕ
found_in list kind [] = []
found_in list kind (path ∷ paths) = numbers_in (read_at list kind path) ++ found_in list kind paths

-- the faults of paths, of which the first begins at a place, each where the path begins after its blanks
abbrev pub faults_in : Listed → NamedKind → PolicyPlace → List (List ℕ) → List FaultAt
faults_in list kind place [] = []
faults_in list kind place (path ∷ paths) =
    fault_in (next_place place (blanks path)) (read_at list kind path) ++ faults_in list kind (next_place place (length path + 1)) paths
