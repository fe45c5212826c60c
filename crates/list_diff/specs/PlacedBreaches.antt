-- The breaches of a policy's lines by a start list.
use Rattle.std.specs.Prelude.{◌≡◌, ℕ, List, [], ◌∷◌, ◌++◌, map, Option, Some, None}
use Rattle.std.specs.List.{slice_get}
use Rattle.std.specs.Option.{option_map, unwrap_or}
use Rattle.own_model.specs.Listed.{Listed}
use Rattle.list_policy.specs.Demand.{AreBreaches}
use Rattle.list_policy.specs.Line.{LineAt}
use Rattle.list_policy.specs.declared.breach.Breach.{Breach}
use Rattle.list_policy.specs.declared.breach.Breach.TheVariants.{Reach, Excess}

-- the place of a breach in the policy, with the paths of its components; one of a budget has no server
pub record BreachPlace : Type 0 where
  pub line : ℕ
  pub column : ℕ
  pub client : List ℕ
  pub server : Option (List ℕ)

-- a breach with its message
pub record BreachAt : Type 0 where
  pub place : BreachPlace
  pub text : List ℕ

abbrev pub path_of : Listed → ℕ → List ℕ
path_of list number = unwrap_or (option_map (λ entry. entry.path) (slice_get list.entries number)) []

abbrev pub paths_of : Listed → Breach → List ℕ × Option (List ℕ)
paths_of list (Reach breach) = (path_of list breach.client, Some (path_of list breach.server))
paths_of list (Excess number) = (path_of list number, None)

-- the place of a breach of a line by a list
abbrev pub place_at : Listed → LineAt → Breach → BreachPlace
place_at list line breach =
    record { line = line.number; column = line.column; client = (paths_of list breach).0; server = (paths_of list breach).1 }

-- the breaches of a line are added
abbrev pub AddsBreaches : Listed → LineAt → List BreachPlace → List BreachPlace → Type 0
AddsBreaches list line old new = (breaches : List Breach) × AreBreaches list line breaches × (new ≡ old ++ map (place_at list line) breaches)

-- the places of all breaches of a policy's lines, line by line
abbrev pub ArePlaces : Listed → List LineAt → List BreachPlace → Type 0
ArePlaces list [] found = found ≡ []
ArePlaces list (line ∷ lines) found =
    (breaches : List Breach) × (others : List BreachPlace) × (found ≡ map (place_at list line) breaches ++ others)
    × AreBreaches list line breaches × ArePlaces list lines others

abbrev pub places : List BreachAt → List BreachPlace
places breaches = map (λ (breach : BreachAt). breach.place) breaches

-- all breaches of a policy's lines, line by line, each with its place
abbrev pub ArePlaced : Listed → List LineAt → List BreachAt → Type 0
ArePlaced list lines found = ArePlaces list lines (places found)
