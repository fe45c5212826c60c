-- Labels by which classes are shown, and what a search for one has found.
use Rattle.std.specs.Prelude.{◌≡◌, ◌≢◌, ℕ, ◌<◌, ◌≤◌, true, false, List, [], ◌∷◌, ◌++◌, length, nat_eq}
use Rattle.std.specs.List.{starts_with, ends_with}
use Rattle.list_labels.specs.Asked.{is_given}
use Rattle.list_labels.specs.GivenLabels.{IsGiven}
use Rattle.list_labels.specs.KnownLabels.{is_among}
use Rattle.list_classes.specs.Classes.{IsLongestIn}
use Rattle.list_classes.specs.declared.text_tree.LabelSide.{LabelSide}
use Rattle.list_classes.specs.declared.text_tree.LabelSide.TheVariants.{Front, End}
use Rattle.list_classes.specs.declared.witness.TextPair.{TextPair}
use Rattle.list_classes.specs.declared.witness.GapSearch.{GapSearch}
use Rattle.list_classes.specs.declared.witness.GapSearch.TheVariants.{Found, Missing, Closed}

-- a label that isn't known has both texts of a pair, and no longer ones
pub record IsWitness (pair : TextPair) (label : List ℕ) : Type 0 where
  pub front : IsLongestIn pair.parts.fronts.now label pair.front
  pub end : IsLongestIn pair.parts.ends.now label pair.end
  pub unknown : is_among pair.parts.known.now label ≡ false

-- no label that can be given is one
abbrev pub HasNoWitness : TextPair → Type 0
HasNoWitness pair = (label : List ℕ) → IsGiven label → ¬ IsWitness pair label

-- a label can be given and is a witness, and no shorter one is
pub record IsLeastWitness (pair : TextPair) (label : List ℕ) : Type 0 where
  pub given : is_given label ≡ true
  pub witness : IsWitness pair label
  pub least : (other : List ℕ) → IsGiven other → IsWitness pair other → length label ≤ length other

-- ---- the search

-- a witness that can be given begins and ends with two parts
pub record IsFilling (pair : TextPair) (head tail label : List ℕ) : Type 0 where
  pub given : IsGiven label
  pub witness : IsWitness pair label
  pub begins : starts_with nat_eq label head ≡ true
  pub closes : ends_with nat_eq label tail ≡ true

-- none of these has a length
abbrev pub HasNone : TextPair → List ℕ → List ℕ → ℕ → Type 0
HasNone pair head tail size = (label : List ℕ) → IsFilling pair head tail label → length label ≢ size

-- each of them is shorter
abbrev pub AreShorter : TextPair → List ℕ → List ℕ → ℕ → Type 0
AreShorter pair head tail size = (label : List ℕ) → IsFilling pair head tail label → length label < size

-- none of them is shorter
abbrev pub AreLonger : TextPair → List ℕ → List ℕ → ℕ → Type 0
AreLonger pair head tail size = (label : List ℕ) → IsFilling pair head tail label → size ≤ length label

-- a label can be given, is a witness, and has a length
pub record IsFound (pair : TextPair) (size : ℕ) (label : List ℕ) : Type 0 where
  pub given : is_given label ≡ true
  pub witness : IsWitness pair label
  pub long : length label ≡ size

-- a label of a length is found between two parts, or there is none, or none of this length or longer
abbrev pub Shows : TextPair → List ℕ → List ℕ → ℕ → GapSearch → Type 0
Shows pair head tail size (Found label) = IsFound pair size label
Shows pair head tail size Missing = HasNone pair head tail size
Shows pair head tail size Closed = AreShorter pair head tail size

-- two parts with a byte more between them, at one side
abbrev pub head_with : LabelSide → ℕ → List ℕ → List ℕ
head_with Front byte head = head ++ byte ∷ []
head_with End byte head = head

abbrev pub tail_with : LabelSide → ℕ → List ℕ → List ℕ
tail_with Front byte tail = tail
tail_with End byte tail = byte ∷ tail
