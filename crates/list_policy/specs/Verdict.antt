-- What a check of a start list against the text of a policy reports: breaches or faults, at their places in the text.
use Rattle.std.specs.Prelude.{◌≡◌, ◌≢◌, ℕ, List, [], ◌∷◌, ◌++◌, filter, length, map, Result, Ok, Err}
use Rattle.own_model.specs.Listed.{Listed}
use Rattle.list_policy.specs.Components.{FaultAt}
use Rattle.list_policy.specs.Demand.{AreBreaches}
use Rattle.list_policy.specs.Line.{LineAt}
use Rattle.list_policy.specs.Pairs.{says_nothing}
use Rattle.list_policy.specs.Reading.{faults_of, lines_of}
use Rattle.list_policy.specs.declared.breach.Breach.{Breach}

-- a line and a column of a text
pub record PlaceAt : Type 0 where
  pub line : ℕ
  pub column : ℕ

-- a breach is reported at the place of its line
abbrev pub breach_place : LineAt → Breach → PlaceAt
breach_place line breach = record { line = line.number; column = line.column }

abbrev pub flaw_place : FaultAt → PlaceAt
flaw_place fault = record { line = fault.line; column = fault.column }

-- the places of all breaches of lines, line by line
abbrev pub AreBrokenAt : Listed → List LineAt → List PlaceAt → Type 0
AreBrokenAt list [] places = places ≡ []
AreBrokenAt list (line ∷ lines) places =
    (found : List Breach) × (others : List PlaceAt) × (places ≡ map (breach_place line) found ++ others) × AreBreaches list line found
    × AreBrokenAt list lines others

-- what is found of lines: the places of breaches, and how many lines speak of nothing
pub record FoundAt : Type 0 where
  pub broken : List PlaceAt
  pub void : ℕ

-- what is found of the lines of a text without faults, or the places of the text's faults
abbrev pub IsVerdict : Listed → List ℕ → Result FoundAt (List PlaceAt) → Type 0
IsVerdict list text (Ok found) =
    (faults_of list text ≡ []) × AreBrokenAt list (lines_of list text) found.broken
    × (found.void ≡ length (filter (says_nothing list) (lines_of list text)))
IsVerdict list text (Err faults) = (faults ≢ []) × (faults ≡ map flaw_place (faults_of list text))
