-- The breaches of a policy that one of two start lists alone has.
use Rattle.std.specs.Prelude.{ℕ, ◌==◌, ◌&&◌, Bool, true, false, List, [], ◌∷◌, ◌++◌, if◌then◌else◌, Option, Some, None}
use Rattle.std.specs.List.{flat_map, list_any}
use Rattle.std.specs.Str.{bytes_eq}
use Rattle.list_diff.specs.PlacedBreaches.{BreachAt}
use Rattle.list_diff.specs.declared.policy_breaches.BreachChange.{BreachChange}
use Rattle.list_diff.specs.declared.policy_breaches.BreachChange.TheVariants.{Gone, Came}

abbrev pub same_server : Option (List ℕ) → Option (List ℕ) → Bool
same_server None None = true
same_server (Some one) (Some other) = bytes_eq one other
same_server None (Some other) = false
same_server (Some one) None = false

-- breaches of one line by the same components are one breach
abbrev pub same_breach : BreachAt → BreachAt → Bool
same_breach one other =
    one.place.line == other.place.line
    && (bytes_eq one.place.client other.place.client && same_server one.place.server other.place.server)

abbrev pub has : List BreachAt → BreachAt → Bool
has breaches breach = list_any (same_breach breach) breaches

-- a breach, and whether the list after has it
pub record ChangeAt : Type 0 where
  pub is_new : Bool
  pub breach : BreachAt

abbrev pub change_at : BreachChange → ChangeAt
change_at (Gone breach) = record { is_new = false; breach = breach.now }
change_at (Came breach) = record { is_new = true; breach = breach.now }

-- a change, unless the other list has its breach
abbrev pub alone : List BreachAt → ChangeAt → List ChangeAt
alone others change = if has others change.breach then [] else change ∷ []

abbrev pub gone : List BreachAt → BreachAt → List ChangeAt
gone after breach = alone after (record { is_new = false; breach = breach })

abbrev pub came : List BreachAt → BreachAt → List ChangeAt
came before breach = alone before (record { is_new = true; breach = breach })

-- those of the list before, and then those of the list after
abbrev pub breach_changes : List BreachAt → List BreachAt → List ChangeAt
breach_changes before after = flat_map (gone after) before ++ flat_map (came before) after
