-- Which labels of a range are routed to which server.
use Rattle.std.specs.Prelude.{◌≡◌, ◌≢◌, ℕ, ◌≤◌, Bool, ◌&&◌, List, length, Option, Some}
use Rattle.own_model.specs.Listed.{Listed}
use Rattle.list_labels.specs.GivenLabels.{leads_to}
use Rattle.list_labels.specs.LabelRanges.{AskedLabel, IsInRange, fits}
use Rattle.list_classes.specs.declared.label_class.LabelClass.{LabelClass}
use Rattle.list_reach.specs.RoutedLabels.{is_to}

-- a given label of a range is routed to a server, and no shorter one of the range is
pub record IsShortestInRange (range : AskedLabel) (list : Listed) (client : ℕ) (service : List ℕ) (server : ℕ) (label : List ℕ) : Type 0 where
  pub asked : IsInRange range label
  pub leads : leads_to list client service label ≡ Some server
  pub least : (other : List ℕ) → IsInRange range other → leads_to list client service other ≡ Some server → length label ≤ length other

-- no given label of a range is
abbrev pub NoneRoutedInRange : AskedLabel → Listed → ℕ → List ℕ → ℕ → Type 0
NoneRoutedInRange range list client service server =
    (label : List ℕ) → IsInRange range label → leads_to list client service label ≢ Some server

-- ---- by classes

abbrev pub witness_length : LabelClass → ℕ
witness_length class = length class.witness

-- the witness of a class is of a range, and is routed to a server
abbrev pub is_routed_in : AskedLabel → (List ℕ → Option ℕ) → ℕ → LabelClass → Bool
is_routed_in range routes server class = fits class.witness range && is_to (routes class.witness) (Some server)
