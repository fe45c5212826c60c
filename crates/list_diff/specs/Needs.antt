-- The components whose budgets sufficed before and don't after.
use Rattle.std.specs.Prelude.{ℕ, ◌&&◌, not, List, [], ◌∷◌, if◌then◌else◌, find, Option, Some, None}
use Rattle.std.specs.List.{flat_map}
use Rattle.std.specs.Str.{bytes_eq}
use Rattle.list_diff.specs.declared.need_changes.ComponentNeed.{ComponentNeed}
use Rattle.list_diff.specs.declared.need_changes.NeedChange.{NeedChange}

-- the need of a component of this path, if there is one
abbrev pub need_of : List ComponentNeed → List ℕ → Option ComponentNeed
need_of needs name = find (λ need. bytes_eq need.name.now name) needs

-- a component falls short if its need isn't covered now, and was covered before
abbrev pub shortfall_from : ComponentNeed → Option ComponentNeed → List NeedChange
shortfall_from now None = []
shortfall_from now (Some was) = if was.is_covered && not now.is_covered then record { now = now; had = was.has } ∷ [] else []

abbrev pub shortfall : List ComponentNeed → ComponentNeed → List NeedChange
shortfall before now = shortfall_from now (need_of before now.name.now)

-- all components that fall short, in the order of those after
abbrev pub shortfalls : List ComponentNeed → List ComponentNeed → List NeedChange
shortfalls before after = flat_map (shortfall before) after
