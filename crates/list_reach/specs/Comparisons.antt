-- The labels of a client's requests for a service that are routed to a server on one of two start lists alone, as a set.
use Rattle.std.specs.Prelude.{◌≡◌, ℕ, ◌≤◌, Bool, true, false, List, length, map, Option, Some, None}
use Rattle.list_labels.specs.GivenLabels.{IsGiven}
use Rattle.list_labels.specs.LabelSets.{set_has}
use Rattle.list_classes.specs.Described.{AreWhole, IsIn}
use Rattle.list_classes.specs.declared.label_classes.LabelClasses.{LabelClasses}
use Rattle.list_reach.specs.RoutedLabels.{RoutedLabel, class_routes, routes_of}
use Rattle.list_reach.specs.declared.comparison.RouteComparison.{RouteComparison}
use Rattle.list_reach.specs.declared.comparison.WitnessedSet.{WitnessedSet}

-- labels of one class are routed alike
abbrev pub RoutesAlike : (List ℕ → Option ℕ) → LabelClasses → Type 0
RoutesAlike routes classes =
    (place : ℕ) (label other : List ℕ) → IsGiven label → IsGiven other → IsIn classes place label → IsIn classes place other
    → routes label ≡ routes other

-- requests are compared by the classes of their labels: each class has the routes of its shortest label on both lists
pub record Compares (before after : List ℕ → Option ℕ) (comparison : RouteComparison) : Type 0 where
  pub whole : AreWhole comparison.classes
  pub before_alike : RoutesAlike before comparison.classes
  pub after_alike : RoutesAlike after comparison.classes
  pub routed : comparison.routed.items ≡ map (class_routes before after) comparison.classes.classes.items

-- a given label passes a test of its routes on both lists, and no shorter one does
pub record IsLeastBy (before after : List ℕ → Option ℕ) (test : RoutedLabel → Bool) (label : List ℕ) : Type 0 where
  pub given : IsGiven label
  pub passes : test (routes_of before after label) ≡ true
  pub least : (other : List ℕ) → IsGiven other → test (routes_of before after other) ≡ true → length label ≤ length other

-- one of the shortest, or none if no label passes
abbrev pub IsShortestBy : (List ℕ → Option ℕ) → (List ℕ → Option ℕ) → (RoutedLabel → Bool) → Option (List ℕ) → Type 0
IsShortestBy before after test None = (label : List ℕ) → IsGiven label → test (routes_of before after label) ≡ false
IsShortestBy before after test (Some label) = IsLeastBy before after test label

-- a set has exactly those given labels that pass a test of their routes on both lists, and its witness is one of the shortest
pub record IsSetBy (before after : List ℕ → Option ℕ) (test : RoutedLabel → Bool) (found : WitnessedSet) : Type 0 where
  pub labels : (label : List ℕ) → IsGiven label → set_has found.labels label ≡ test (routes_of before after label)
  pub witness : IsShortestBy before after test found.witness
