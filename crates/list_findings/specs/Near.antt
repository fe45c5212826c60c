-- The names among which one may have been meant.
use Rattle.std.specs.Prelude.{ℕ, ◌==◌, List, [], ◌∷◌, if◌then◌else◌}
use Rattle.own_model.specs.Listed.{ListedEntry}

-- the names of the entries of an init's list
abbrev pub names_in : ℕ → List ListedEntry → List (List ℕ)
names_in init [] = []
names_in init (entry ∷ entries) = if entry.home == init then entry.name ∷ names_in init entries else names_in init entries
