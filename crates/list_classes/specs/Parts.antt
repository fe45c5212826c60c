-- Parts of a set of labels: the classes within one class, without those within others; and which labels their shapes have.
use Rattle.std.specs.Prelude.{◌≡◌, ℕ, ◌<◌, Bool, true, false, ◌&&◌, ◌||◌, not, if◌then◌else◌, List, [], length, nat_eq, slice_index_or, Option, Some, None}
use Rattle.std.specs.List.{list_any, slice_get}
use Rattle.list_labels.specs.LabelSets.{has_label}
use Rattle.list_labels.specs.declared.pattern.Pattern.{Pattern}
use Rattle.list_labels.specs.declared.pattern.Pattern.TheVariants.{Exactly, Between}
use Rattle.list_classes.specs.Trees.{has_place, row_at, text_at}
use Rattle.list_classes.specs.Classes.{places_at}
use Rattle.list_classes.specs.declared.class_part.ClassPart.{ClassPart}
use Rattle.list_classes.specs.declared.label_class.LabelClass.{LabelClass}
use Rattle.list_classes.specs.declared.label_classes.LabelClasses.{LabelClasses}

-- ---- classes within a class

-- a place is one for a beginning and one of some endings
abbrev pub is_for_ends : LabelClasses → ℕ → ℕ → List ℕ → Bool
is_for_ends classes front other ends = list_any (λ end. has_place (places_at classes.at.items front end) other) ends

-- a place is one for a beginning and an ending below those of a class
abbrev pub is_below : LabelClasses → LabelClass → ℕ → Bool
is_below classes class other =
    list_any (λ front. is_for_ends classes front other (row_at classes.ends.below.items class.end)) (row_at classes.fronts.below.items class.front)

abbrev pub is_within_class : LabelClasses → ℕ → ℕ → Option LabelClass → Bool
is_within_class classes place other None = false
is_within_class classes place other (Some class) = if class.is_one then nat_eq other place else is_below classes class other

-- another class has the beginning and the ending of the class at a place; only itself if that is one label
abbrev pub is_within : LabelClasses → ℕ → ℕ → Bool
is_within classes place other = is_within_class classes place other (slice_get classes.classes.items place)

-- a class is within one of some classes
abbrev pub is_within_any : LabelClasses → List ℕ → ℕ → Bool
is_within_any classes places other = list_any (λ place. is_within classes place other) places

-- ---- parts

-- a part has a class
abbrev pub covers : LabelClasses → ℕ → ClassPart → Bool
covers classes other part = is_within classes part.place other && not (is_within_any classes part.except.items other)

-- a class is within one of some classes, or is one of them
abbrev pub excepts : LabelClasses → List ℕ → ℕ → Bool
excepts classes places other = is_within_any classes places other || has_place places other

-- the class at a place is inside
abbrev pub is_inside : List Bool → ℕ → Bool
is_inside inside place = slice_index_or inside place false

-- some classes are exceptions among others: they aren't inside, and each other class that isn't is within one of them
pub record AreExceptions (classes : LabelClasses) (inside : List Bool) (among found : List ℕ) : Type 0 where
  pub outside : (other : ℕ) → has_place among other ≡ true → is_inside inside other ≡ false → excepts classes found other ≡ true
  pub within : (other : ℕ) → has_place found other ≡ true → has_place among other ≡ true
  pub except : (other : ℕ) → has_place found other ≡ true → is_inside inside other ≡ false

-- marks show which classes are within some classes
pub record AreMarks (classes : LabelClasses) (places : List ℕ) (marks : List Bool) : Type 0 where
  pub marked : (other : ℕ) → other < length marks → is_inside marks other ≡ is_within_any classes places other

-- a part has no class that isn't inside, and lacks no more than such classes
pub record IsPart (classes : LabelClasses) (inside : List Bool) (part : ClassPart) : Type 0 where
  pub outside : (other : ℕ) → is_within classes part.place other ≡ true → is_inside inside other ≡ false
      → excepts classes part.except.items other ≡ true
  pub except : (other : ℕ) → has_place part.except.items other ≡ true
      → (is_within classes part.place other ≡ true) × (is_inside inside other ≡ false)

-- a part has a class, or is the one for this class
abbrev pub serves : LabelClasses → ℕ → ClassPart → Bool
serves classes other part = covers classes other part || nat_eq part.place other

abbrev pub is_served : LabelClasses → ℕ → List ClassPart → Bool
is_served classes other parts = list_any (serves classes other) parts

-- for each class that is inside there is a part
abbrev pub ServeAll : LabelClasses → List Bool → List ClassPart → Type 0
ServeAll classes inside parts = (place : ℕ) → is_inside inside place ≡ true → is_served classes place parts ≡ true

-- ---- labels of their shapes

-- the text at a place, or the empty one if this is the other place
abbrev pub text_unless : List (List ℕ) → ℕ → ℕ → List ℕ
text_unless texts place other = if nat_eq place other then [] else text_at texts place

-- the pattern of a class without the beginning and the ending at two places
abbrev pub pattern_of : LabelClasses → ℕ → ℕ → LabelClass → Pattern
pattern_of classes front end class =
    if class.is_one
    then Exactly class.witness
    else Between (text_unless classes.fronts.texts.items class.front front) (text_unless classes.ends.texts.items class.end end)

abbrev pub has_pattern : LabelClasses → ℕ → ℕ → List ℕ → Option LabelClass → Bool
has_pattern classes front end label None = false
has_pattern classes front end label (Some class) = has_label label (pattern_of classes front end class)

-- a label has the pattern of the class at a place
abbrev pub has_pattern_at : LabelClasses → ℕ → ℕ → List ℕ → ℕ → Bool
has_pattern_at classes front end label place = has_pattern classes front end label (slice_get classes.classes.items place)

-- a label has the pattern of one of the classes at some places
abbrev pub has_any_pattern : LabelClasses → ℕ → ℕ → List ℕ → List ℕ → Bool
has_any_pattern classes front end label places = list_any (has_pattern_at classes front end label) places

abbrev pub is_in_class : LabelClasses → List ℕ → List ℕ → Option LabelClass → Bool
is_in_class classes label except None = false
is_in_class classes label except (Some class) =
    has_label label (pattern_of classes 0 0 class) && not (has_any_pattern classes class.front class.end label except)

-- a label is in the shape of a part
abbrev pub is_in_part : LabelClasses → List ℕ → ClassPart → Bool
is_in_part classes label part = is_in_class classes label part.except.items (slice_get classes.classes.items part.place)
