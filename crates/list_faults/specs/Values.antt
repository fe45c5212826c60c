-- The entries of all lists as a start list's text has them, with the steps to each.
use Rattle.std.specs.Prelude.{ℕ, zero, suc, Bool, List, [], ◌∷◌, ◌++◌, codes, flat_map, if◌then◌else◌, Option, Some}
use Rattle.std.specs.List.{enumerate_from}
use Rattle.std.specs.Option.{option_and_then, option_map, option_or, unwrap_or}
use Rattle.std.specs.Str.{bytes_eq}
use Rattle.serde_json.specs.Data.{Data}
use Rattle.serde_json.specs.Find.{as_array, as_str, get}
use Rattle.serde_json.specs.View.{view}
use Rattle.list_parser.specs.Entries.{deepest}
use Rattle.list_parser.specs.Members.{elements, name_at}
use Rattle.list_parts.specs.Texts.{has}
use Rattle.list_parts.specs.declared.list_part.EntryStep.{EntryStep}
use Rattle.list_faults.specs.declared.values.EntryValue.{EntryValue as SeenValue}

-- an entry's value, and the steps to it from the machine's list on
pub record EntryValue : Type 0 where
  pub steps : List EntryStep
  pub value : Data

-- the binary of an entry: without the member the binary that has its name
abbrev pub runs : List ℕ → Data → Bool
runs binary entry = has (bytes_eq binary) (option_and_then as_str (option_or (get (codes "binary") entry) (get (codes "name") entry)))

-- the elements of a value that may be missing, and may be no list
abbrev pub elements_in : Option Data → List Data
elements_in d = unwrap_or (option_map elements (option_and_then as_array d)) []

-- the entries of a list that may be missing
abbrev pub starts_in : Option Data → List Data
starts_in list = elements_in (option_and_then (get (codes "start")) list)

-- the steps to an entry, at its place in a list, after the steps to the list
abbrev pub step_down : List EntryStep → ℕ × Data → List EntryStep
step_down above entry = above ++ record { place = entry.0; name = name_at (codes "name") entry.1 } ∷ []

abbrev pub found_at : List EntryStep → ℕ × Data → EntryValue
found_at above entry = record { steps = step_down above entry; value = entry.1 }

-- an entry, and those that it starts if it is an init, where inits may nest so deep
abbrev pub with_own : ℕ → List EntryStep → ℕ × Data → List EntryValue
with_own zero above entry = found_at above entry ∷ []
with_own (suc deeper) above entry =
    found_at above entry
    ∷ (if runs (codes "init") entry.1
    then flat_map (with_own deeper (step_down above entry)) (enumerate_from 0 (starts_in (get (codes "config") entry.1)))
    else [])

-- the entries of a list, each before those that it starts
abbrev pub found_within : ℕ → List EntryStep → List Data → List EntryValue
found_within deeper above starts = flat_map (with_own deeper above) (enumerate_from 0 starts)

-- of all lists
abbrev pub found_in : Data → List EntryValue
found_in list = found_within deepest [] (starts_in (Some list))

-- ---- what the code's type denotes

abbrev pub seen : SeenValue → EntryValue
seen found = record { steps = found.steps; value = view found.value.now }
