-- Classes of labels as a whole, and sets of labels in words that are unions of classes.
use Rattle.std.specs.Prelude.{◌≡◌, ℕ, Bool, false, List, slice_index_or, Option}
use Rattle.list_labels.specs.LabelRanges.{AskedLabel, fits}
use Rattle.list_labels.specs.LabelSets.{set_has}
use Rattle.list_labels.specs.declared.pattern.LabelSet.{LabelSet}
use Rattle.list_labels.specs.declared.session_requests.SessionRequests.{SessionRequests}
use Rattle.list_classes.specs.Classes.{AreClasses, IsOf}
use Rattle.list_classes.specs.Making.{AreLeast, AreRoutedAlike, HaveEach, HaveWitnesses}
use Rattle.list_classes.specs.declared.label_classes.LabelClasses.{LabelClasses}

-- a label is of the class at a place
abbrev pub IsIn : LabelClasses → ℕ → List ℕ → Type 0
IsIn classes place label = IsOf classes.fronts classes.ends classes.classes.items place label

-- no label is of two classes, each given label is of one, and each class has a shortest label
pub record AreWhole (classes : LabelClasses) : Type 0 where
  pub are : AreClasses classes.fronts classes.ends classes.classes.items classes.at.items
  pub each : HaveEach classes.fronts classes.ends classes.classes.items
  pub own : HaveWitnesses classes.fronts classes.ends classes.classes.items
  pub least : AreLeast classes.fronts classes.ends classes.classes.items

-- the set has a label of a class exactly if the class is inside
abbrev pub IsUnionOf : LabelClasses → List Bool → LabelSet → Type 0
IsUnionOf classes inside set =
    (place : ℕ) (label : List ℕ) → IsIn classes place label → set_has set label ≡ slice_index_or inside place false

-- requests with given labels of one class are routed alike
abbrev pub RouteAlike : Option SessionRequests → LabelClasses → Type 0
RouteAlike wishes classes = AreRoutedAlike wishes classes.fronts classes.ends classes.classes.items

-- of two labels of one class both match a condition, or neither
abbrev pub KeepRange : AskedLabel → LabelClasses → Type 0
KeepRange range classes = (place : ℕ) (label other : List ℕ) → IsIn classes place label → IsIn classes place other → fits label range ≡ fits other range
