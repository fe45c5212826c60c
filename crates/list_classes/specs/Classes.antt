-- Classes of labels, by their places: which labels are of a class, and what holds of the classes together.
use Rattle.std.specs.Prelude.{◌≡◌, ℕ, ◌<◌, Bool, true, false, ◌&&◌, not, if◌then◌else◌, List, [], length, nat_eq, Option, Some, None}
use Rattle.std.specs.Global.{Vec}
use Rattle.std.specs.List.{list_any, slice_get}
use Rattle.std.specs.Str.{bytes_eq}
use Rattle.list_classes.specs.Trees.{IsLongest, has_place, row_at}
use Rattle.list_classes.specs.declared.text_tree.TextTree.{TextTree}
use Rattle.list_classes.specs.declared.text_tree.LabelSide.TheVariants.{Front, End}
use Rattle.list_classes.specs.declared.label_class.LabelClass.{LabelClass}

-- the text at a place is the longest one of a tree that a label has
abbrev pub IsLongestIn : TextTree → List ℕ → ℕ → Type 0
IsLongestIn tree label place = IsLongest tree.side tree.texts.items label place

-- a class is this label alone
abbrev pub is_single : List ℕ → LabelClass → Bool
is_single label class = class.is_one && bytes_eq class.witness label

-- a class of one label has its witness; another one has no label that is a class by itself
abbrev pub is_own : List LabelClass → LabelClass → List ℕ → Bool
is_own classes class label = if class.is_one then bytes_eq class.witness label else not (list_any (is_single label) classes)

-- a label is of the class at a place: the class has its longest beginning and its longest ending
pub record IsOf (fronts ends : TextTree) (classes : List LabelClass) (place : ℕ) (label : List ℕ) : Type 0 where
  pub class : LabelClass
  pub there : slice_get classes place ≡ Some class
  pub front : IsLongestIn fronts label class.front
  pub end : IsLongestIn ends label class.end
  pub own : is_own classes class label ≡ true

abbrev pub ends_of : Option (Vec (Vec ℕ)) → List (Vec ℕ)
ends_of None = []
ends_of (Some ends) = ends.items

-- the places for a beginning and an ending
abbrev pub places_at : List (Vec (Vec ℕ)) → ℕ → ℕ → List ℕ
places_at rows front end = row_at (ends_of (slice_get rows front)) end

-- a class has this beginning and this ending
abbrev pub is_between : Option LabelClass → ℕ → ℕ → Bool
is_between None front end = false
is_between (Some class) front end = nat_eq class.front front && nat_eq class.end end

-- rows have exactly the places of the classes with a beginning and an ending, for each of these
abbrev pub AreListed : TextTree → TextTree → List LabelClass → List (Vec (Vec ℕ)) → Type 0
AreListed fronts ends classes rows =
    (front end place : ℕ) → front < length fronts.texts.items → end < length ends.texts.items
    → has_place (places_at rows front end) place ≡ is_between (slice_get classes place) front end

-- a class of one label has the longest beginning and the longest ending of this label
pub record AreOnesLongest (fronts ends : TextTree) (classes : List LabelClass) : Type 0 where
  pub front : (place : ℕ) (class : LabelClass) → slice_get classes place ≡ Some class → class.is_one ≡ true
      → IsLongestIn fronts class.witness class.front
  pub end : (place : ℕ) (class : LabelClass) → slice_get classes place ≡ Some class → class.is_one ≡ true
      → IsLongestIn ends class.witness class.end

-- classes of labels: their texts are of two trees, they are listed by them, and no label is of two classes
pub record AreClasses (fronts ends : TextTree) (classes : List LabelClass) (rows : List (Vec (Vec ℕ))) : Type 0 where
  pub front_side : fronts.side ≡ Front
  pub end_side : ends.side ≡ End
  pub fronts_there : (place : ℕ) (class : LabelClass) → slice_get classes place ≡ Some class
      → class.front < length fronts.texts.items
  pub ends_there : (place : ℕ) (class : LabelClass) → slice_get classes place ≡ Some class
      → class.end < length ends.texts.items
  pub listed : AreListed fronts ends classes rows
  pub longest : AreOnesLongest fronts ends classes
  pub one_once : (place other : ℕ) (class another : LabelClass) → slice_get classes place ≡ Some class
      → slice_get classes other ≡ Some another → class.is_one ≡ true → another.is_one ≡ true
      → class.witness ≡ another.witness → place ≡ other
  pub several_once : (place other : ℕ) (class another : LabelClass) → slice_get classes place ≡ Some class
      → slice_get classes other ≡ Some another → class.is_one ≡ false → another.is_one ≡ false
      → class.front ≡ another.front → class.end ≡ another.end → place ≡ other
