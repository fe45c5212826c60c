-- Sets of labels in words: one label, or all labels with a beginning and an ending, with exceptions, and several of these.
use Rattle.std.specs.Prelude.{◌≡◌, ◌↔◌, ℕ, Bool, true, ◌&&◌, not, List, nat_eq, Some}
use Rattle.std.specs.List.{list_any, starts_with, ends_with}
use Rattle.std.specs.Str.{bytes_eq}
use Rattle.own_model.specs.Listed.{Listed}
use Rattle.list_labels.specs.GivenLabels.{IsGiven, leads_to}
use Rattle.list_labels.specs.declared.pattern.LabelSet.{LabelSet}
use Rattle.list_labels.specs.declared.pattern.Pattern.{Pattern}
use Rattle.list_labels.specs.declared.pattern.Pattern.TheVariants.{Exactly, Between}
use Rattle.list_labels.specs.declared.pattern.Shape.{Shape}

-- a label has a pattern
abbrev pub has_label : List ℕ → Pattern → Bool
has_label label (Exactly one) = bytes_eq one label
has_label label (Between front end) = starts_with nat_eq label front && ends_with nat_eq label end

-- a label has the pattern of a shape, and none of its exceptions
abbrev pub is_in : List ℕ → Shape → Bool
is_in label shape = has_label label shape.pattern && not (list_any (has_label label) shape.except.items)

-- a set has a label: it is in one of the shapes
abbrev pub set_has : LabelSet → List ℕ → Bool
set_has set label = list_any (is_in label) set.shapes.items

-- the set of labels of a client's requests for a service that are routed to a server
pub record IsRoutedTo (list : Listed) (client : ℕ) (service : List ℕ) (server : ℕ) (label : List ℕ) : Type 0 where
  pub given : IsGiven label
  pub leads : leads_to list client service label ≡ Some server

-- a set of labels in words is this set: it has exactly those given labels that are routed to the server
abbrev pub IsSetOf : Listed → ℕ → List ℕ → ℕ → LabelSet → Type 0
IsSetOf list client service server set =
    (label : List ℕ) → IsGiven label → (set_has set label ≡ true) ↔ (leads_to list client service label ≡ Some server)
