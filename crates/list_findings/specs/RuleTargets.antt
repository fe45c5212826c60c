-- The targets of rules.
use Rattle.std.specs.Prelude.{ℕ, Bool, false, List, Option, Some, None}
use Rattle.std.specs.List.{list_any}
use Rattle.own_model.specs.Listed.{ListedEntry, Target, end_of, offers, way_to}

-- some entry of an init's list provides a service
abbrev pub is_provided : List ListedEntry → ℕ → List ℕ → Bool
is_provided entries init service = list_any (offers init service) entries

-- the child of an init to which a target routes a service
abbrev pub child_at : List ListedEntry → ℕ → Target → List ℕ → Option ℕ
child_at entries init target service = end_of (way_to entries init target service) None

-- it holds of the init, if there is one
abbrev pub of_init : (ListedEntry → Bool) → Option ListedEntry → Bool
of_init holds None = false
of_init holds (Some init) = holds init
