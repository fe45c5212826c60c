-- Texts at one side of labels, the longest one that a label has, and of each text the places of those that contain it there.
use Rattle.std.specs.Prelude.{◌≡◌, ℕ, ◌<◌, ◌≤◌, Bool, true, List, [], length, nat_eq, slice_index_or, Option, Some, None}
use Rattle.std.specs.Global.{Vec}
use Rattle.std.specs.List.{list_any, starts_with, ends_with, slice_get}
use Rattle.list_classes.specs.declared.text_tree.LabelSide.{LabelSide}
use Rattle.list_classes.specs.declared.text_tree.LabelSide.TheVariants.{Front, End}

-- a label has a text at a side
abbrev pub has_at : LabelSide → List ℕ → List ℕ → Bool
has_at Front label text = starts_with nat_eq label text
has_at End label text = ends_with nat_eq label text

-- the text at a place, or the empty one
abbrev pub text_at : List (List ℕ) → ℕ → List ℕ
text_at texts place = slice_index_or texts place []

-- a label has the text at a place, and no longer one
pub record IsLongest (side : LabelSide) (texts : List (List ℕ)) (label : List ℕ) (place : ℕ) : Type 0 where
  pub there : place < length texts
  pub has : has_at side label (text_at texts place) ≡ true
  pub longest : (other : ℕ) → other < length texts → has_at side label (text_at texts other) ≡ true
      → length (text_at texts other) ≤ length (text_at texts place)

-- each text is there once, and the empty one is the first
pub record AreTexts (texts : List (List ℕ)) : Type 0 where
  pub some : 0 < length texts
  pub first : text_at texts 0 ≡ []
  pub once : (place other : ℕ) → place < length texts → other < length texts → text_at texts place ≡ text_at texts other
      → place ≡ other

-- a place is one of some places
abbrev pub has_place : List ℕ → ℕ → Bool
has_place places place = list_any (nat_eq place) places

abbrev pub places_of : Option (Vec ℕ) → List ℕ
places_of None = []
places_of (Some places) = places.items

-- the places of a row
abbrev pub row_at : List (Vec ℕ) → ℕ → List ℕ
row_at rows place = places_of (slice_get rows place)

-- each row has exactly the places of the texts that have its text at a side
pub record AreBelow (side : LabelSide) (texts : List (List ℕ)) (rows : List (Vec ℕ)) : Type 0 where
  pub within : (place other : ℕ) → has_place (row_at rows place) other ≡ true → other < length texts
  pub below : (place other : ℕ) → place < length texts → other < length texts
      → has_place (row_at rows place) other ≡ has_at side (text_at texts other) (text_at texts place)

-- texts of a side, with the places of those that contain them
pub record IsTree (side : LabelSide) (texts : List (List ℕ)) (rows : List (Vec ℕ)) : Type 0 where
  pub each : AreTexts texts
  pub below : AreBelow side texts rows
