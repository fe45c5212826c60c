-- How classes are made: which texts rules ask for, which labels they know, and what holds of the classes so far.
use Rattle.std.specs.Prelude.{◌≡◌, ℕ, ◌<◌, ◌≤◌, Bool, true, false, ◌&&◌, ◌||◌, not, List, [], length, nat_eq, Option, Some, None, All, AllPairs, Contains}
use Rattle.std.specs.List.{list_any, slice_get}
use Rattle.std.specs.Str.{bytes_eq}
use Rattle.std.proofs.Common.{◌⊎◌}
use Rattle.list_labels.specs.Alike.{IsAlike}
use Rattle.list_labels.specs.GivenLabels.{IsGiven}
use Rattle.list_labels.specs.KnownLabels.{is_among, is_filled}
use Rattle.list_labels.specs.Asked.{asked_of, is_given, known}
use Rattle.list_labels.specs.LabelRanges.{AskedLabel}
use Rattle.list_labels.specs.declared.session_requests.SessionRequests.{SessionRequests}
use Rattle.list_classes.specs.Classes.{IsLongestIn, IsOf, is_single}
use Rattle.list_classes.specs.declared.text_tree.TextTree.{TextTree}
use Rattle.list_classes.specs.declared.label_class.LabelClass.{LabelClass}

-- the conditions of the rules for requests, if there are requests
abbrev pub asked_for : Option SessionRequests → List AskedLabel
asked_for None = []
asked_for (Some wishes) = asked_of wishes.list.now wishes.client wishes.service.now

-- a rule for requests knows a label by itself
abbrev pub known_for : Option SessionRequests → List ℕ → Bool
known_for None label = false
known_for (Some wishes) label = known wishes.list.now wishes.client wishes.service.now label

-- a class has the longest texts of its witness, and is one label just if its witness is a known label; no other label of it is shorter
pub record IsMade (fronts ends : TextTree) (known : List (List ℕ)) (class : LabelClass) : Type 0 where
  pub front : IsLongestIn fronts class.witness class.front
  pub end : IsLongestIn ends class.witness class.end
  pub is_one : class.is_one ≡ is_among known class.witness
  pub least : class.is_one ≡ false → (label : List ℕ) → IsGiven label → IsLongestIn fronts label class.front
      → IsLongestIn ends label class.end → is_among known label ≡ false → length class.witness ≤ length label

-- two classes are the same label, or the other labels with the same texts
abbrev pub is_same_class : LabelClass → LabelClass → Bool
is_same_class class another =
    (class.is_one && (another.is_one && bytes_eq class.witness another.witness))
    || (not class.is_one && (not another.is_one && (nat_eq class.front another.front && nat_eq class.end another.end)))

-- no two of these are the same
abbrev pub AreApart : List LabelClass → Type 0
AreApart classes = AllPairs (λ class another. is_same_class class another ≡ false) classes

-- classes are made of two trees and of known labels, each once
pub record AreMade (fronts ends : TextTree) (known : List (List ℕ)) (classes : List LabelClass) : Type 0 where
  pub made : All (IsMade fronts ends known) classes
  pub apart : AreApart classes

-- a class has several labels, and its texts are before those at two places
pub record IsBefore (front end : ℕ) (class : LabelClass) : Type 0 where
  pub several : class.is_one ≡ false
  pub before : (class.front < front) ⊎ ((class.front ≡ front) × (class.end < end))

-- a class has several labels, with a beginning and an ending
abbrev pub is_several : ℕ → ℕ → LabelClass → Bool
is_several front end class = not class.is_one && (nat_eq class.front front && nat_eq class.end end)

abbrev pub has_several : List LabelClass → ℕ → ℕ → Bool
has_several classes front end = list_any (is_several front end) classes

-- if a given label that isn't known has a longest beginning and a longest ending, there is a class for them
abbrev pub HasSeveral : TextTree → TextTree → List (List ℕ) → List LabelClass → ℕ → ℕ → Type 0
HasSeveral fronts ends known classes front end =
    (label : List ℕ) → IsGiven label → IsLongestIn fronts label front → IsLongestIn ends label end → is_among known label ≡ false
    → has_several classes front end ≡ true

abbrev pub HaveSeveral : TextTree → TextTree → List (List ℕ) → List LabelClass → Type 0
HaveSeveral fronts ends known classes = (front end : ℕ) → HasSeveral fronts ends known classes front end

-- classes are made of several labels each, for all beginnings and endings before those at two places
pub record AreMadeBefore (fronts ends : TextTree) (known : List (List ℕ)) (front end : ℕ) (classes : List LabelClass) : Type 0 where
  pub are : AreMade fronts ends known classes
  pub before : All (IsBefore front end) classes
  pub all : (f e : ℕ) → (f < front) ⊎ ((f ≡ front) × (e < end)) → HasSeveral fronts ends known classes f e

-- known labels can be given
abbrev pub AreGiven : List (List ℕ) → Type 0
AreGiven known = (label : List ℕ) → is_among known label ≡ true → is_given label ≡ true

-- a label is a class by itself
abbrev pub has_single : List LabelClass → List ℕ → Bool
has_single classes label = list_any (is_single label) classes

-- each known label is a class by itself
abbrev pub AreSingle : List (List ℕ) → List LabelClass → Type 0
AreSingle known classes = (label : List ℕ) → is_among known label ≡ true → has_single classes label ≡ true

-- the witness of each class is of this class
abbrev pub HaveWitnesses : TextTree → TextTree → List LabelClass → Type 0
HaveWitnesses fronts ends classes =
    (place : ℕ) (class : LabelClass) → slice_get classes place ≡ Some class → IsOf fronts ends classes place class.witness

-- no given label of a class is shorter than its witness
abbrev pub AreLeast : TextTree → TextTree → List LabelClass → Type 0
AreLeast fronts ends classes =
    (place : ℕ) (class : LabelClass) (label : List ℕ) → slice_get classes place ≡ Some class → IsGiven label
    → IsOf fronts ends classes place label → length class.witness ≤ length label

-- each label that can be given is of a class
abbrev pub HaveEach : TextTree → TextTree → List LabelClass → Type 0
HaveEach fronts ends classes = (label : List ℕ) → IsGiven label → (place : ℕ) × IsOf fronts ends classes place label

-- requests with two labels are routed to the same entry by the same rules, if there are requests
abbrev pub IsAlikeFor : Option SessionRequests → List ℕ → List ℕ → Type 0
IsAlikeFor None label other = Unit {0}
IsAlikeFor (Some wishes) label other = IsAlike wishes.list.now wishes.client wishes.service.now label other

-- requests with given labels of one class are routed alike
abbrev pub AreRoutedAlike : Option SessionRequests → TextTree → TextTree → List LabelClass → Type 0
AreRoutedAlike wishes fronts ends classes =
    (place : ℕ) (label other : List ℕ) → IsGiven label → IsGiven other → IsOf fronts ends classes place label
    → IsOf fronts ends classes place other → IsAlikeFor wishes label other

-- texts and labels have all that the rules for requests ask for and know, and the empty label
pub record HaveAsked (wishes : Option SessionRequests) (front_texts end_texts known_labels : List (List ℕ)) : Type 0 where
  pub empty : is_among known_labels [] ≡ true
  pub fronts : (asked : AskedLabel) → Contains (asked_for wishes) asked → is_among front_texts asked.front ≡ true
  pub ends : (asked : AskedLabel) → Contains (asked_for wishes) asked → is_among end_texts asked.end ≡ true
  pub known : (label : List ℕ) → is_filled label ≡ true → known_for wishes label ≡ true → is_among known_labels label ≡ true
