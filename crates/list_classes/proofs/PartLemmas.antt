-- Exceptions of a part, one class after another.
use Rattle.std.proofs.Common.{◌≡◌, ℕ, ◌+◌, ◌<◌, ◌≤◌, Bool, true, false, ◌&&◌, ◌||◌, List, [], ◌∷◌, ◌++◌, length, nat_eq, get_or, take, Option, Some, None, refl, sym, subst, ap, ◌∙◌, ◌⊎◌, inl, inr}
use Rattle.std.specs.List.{list_any, slice_get}
use Rattle.std.proofs.Math.ListN.{get_or-eq_default}
use Rattle.std.proofs.lemmas.Bool.{both_ways, cases_lt, eq-eqb, eqb-true, or_cases, or_left, or_right}
use Rattle.std.proofs.lemmas.List.{take_more}
use Rattle.std.proofs.lemmas.Option.{slice_get_past, slice_get_read}
use Rattle.std.proofs.lemmas.List.Folds.{Any-from_list_any, list_any-append, list_any-from_Any}
use Rattle.list_classes.specs.Trees.{has_place}
use Rattle.list_classes.specs.Parts.{AreExceptions, AreMarks, excepts, covers, has_any_pattern, has_pattern, has_pattern_at, is_in_class, is_in_part, is_inside, is_served, is_within, is_within_any, pattern_of, serves}
use Rattle.list_classes.specs.declared.class_part.ClassPart.{ClassPart}
use Rattle.list_classes.specs.declared.label_class.LabelClass.{LabelClass}
use Rattle.list_classes.specs.declared.label_classes.LabelClasses.{LabelClasses}
use Rattle.list_labels.specs.LabelSets.{has_label, is_in}
use Rattle.list_labels.specs.declared.pattern.Pattern.{Pattern}
use Rattle.list_labels.specs.declared.pattern.Shape.{Shape}
use Rattle.std.specs.Prelude.{not}

-- ---- a place more

place_more : (places : List ℕ) (place other : ℕ) → has_place (places ++ place ∷ []) other ≡ true
    → (has_place places other ≡ true) ⊎ (other ≡ place)
place_more places place other has =
    elim (or_cases (has_place places other) (has_place (place ∷ []) other) (sym (list_any-append (nat_eq other) places (place ∷ [])) ∙ has)) [
      | inl old ↦ inl old
      | inr new ↦ elim (or_cases (nat_eq other place) false new) [
        | inl same ↦ inr (eqb-true other place same)
        | inr none ↦ inl (absurd (both_ways false refl none))
      ]
    ]

place_stays : (places : List ℕ) (place other : ℕ) → has_place places other ≡ true → has_place (places ++ place ∷ []) other ≡ true
place_stays places place other has = list_any-append (nat_eq other) places (place ∷ []) ∙ or_left _ (has_place (place ∷ []) other) has

place_last : (places : List ℕ) (place : ℕ) → has_place (places ++ place ∷ []) place ≡ true
place_last places place =
    list_any-append (nat_eq place) places (place ∷ [])
    ∙ or_right (has_place places place) _ (or_left (nat_eq place place) false (eq-eqb place place refl))

within_more : (classes : LabelClasses) (places : List ℕ) (place other : ℕ)
    → is_within_any classes (places ++ place ∷ []) other ≡ (is_within_any classes places other || (is_within classes place other || false))
within_more classes places place other = list_any-append (λ p. is_within classes p other) places (place ∷ [])

or_false : (a : Bool) → (a || false) ≡ a
or_false true = refl
or_false false = refl

-- ---- marks

inside_there : (marks : List Bool) (other : ℕ) → is_inside marks other ≡ true → other < length marks
inside_there marks other is =
    elim (cases_lt other (length marks)) [
      | inl less ↦ less
      | inr past ↦ absurd (both_ways _ (get_or-eq_default marks false past) is)
    ]

pub no_marks : (classes : LabelClasses) (marks : List Bool) → ((other : ℕ) → is_inside marks other ≡ false) → AreMarks classes [] marks
no_marks classes marks none = record { marked = λ other less. none other }

pub marks_more : (classes : LabelClasses) (places : List ℕ) (old new : List Bool) (place : ℕ) → AreMarks classes places old
    → length new ≡ length old
    → ((other : ℕ) → other < length old → is_inside new other ≡ (is_inside old other || is_within classes place other))
    → AreMarks classes (places ++ place ∷ []) new
marks_more classes places old new place are size more =
    record {
      marked = λ other less.
          let within : other < length old = subst (λ (n : ℕ). other < n) size less in
          more other within
          ∙ (ap (λ b. b || is_within classes place other) (are.marked other within)
          ∙ (ap (λ b. is_within_any classes places other || b) (sym (or_false (is_within classes place other)))
          ∙ sym (within_more classes places place other)));
    }

-- ---- exceptions

pub no_exceptions : (classes : LabelClasses) (inside : List Bool) → AreExceptions classes inside [] []
no_exceptions classes inside =
    record {
      outside = λ other has out. absurd (both_ways false refl has);
      within = λ other has. has;
      except = λ other has. absurd (both_ways false refl has);
    }

pub except_more : (classes : LabelClasses) (inside : List Bool) (seen found : List ℕ) (place : ℕ) → AreExceptions classes inside seen found
    → is_inside inside place ≡ false → AreExceptions classes inside (seen ++ place ∷ []) (found ++ place ∷ [])
except_more classes inside seen found place are out =
    record {
      outside = λ other has here.
          elim (place_more seen place other has) [
            | inl old ↦ elim (or_cases (is_within_any classes found other) (has_place found other) (are.outside other old here)) [
              | inl within ↦ or_left _ (has_place (found ++ place ∷ []) other)
                  (within_more classes found place other ∙ or_left _ (is_within classes place other || false) within)
              | inr there ↦ or_right (is_within_any classes (found ++ place ∷ []) other) _ (place_stays found place other there)
            ]
            | inr same ↦ or_right (is_within_any classes (found ++ place ∷ []) other) _
                (subst (λ (n : ℕ). has_place (found ++ place ∷ []) n ≡ true) (sym same) (place_last found place))
          ];
      within = λ other has.
          elim (place_more found place other has) [
            | inl old ↦ place_stays seen place other (are.within other old)
            | inr same ↦ subst (λ (n : ℕ). has_place (seen ++ place ∷ []) n ≡ true) (sym same) (place_last seen place)
          ];
      except = λ other has.
          elim (place_more found place other has) [
            | inl old ↦ are.except other old
            | inr same ↦ ap (λ (n : ℕ). is_inside inside n) same ∙ out
          ];
    }

-- one element more of a list
pub except_step : (classes : LabelClasses) (inside : List Bool) (all found : List ℕ) (k place : ℕ) → k < length all → place ≡ get_or all k 0
    → AreExceptions classes inside (take k all ++ place ∷ []) found → AreExceptions classes inside (take (k + 1) all) found
except_step classes inside all found k place less is are =
    subst (λ (seen : List ℕ). AreExceptions classes inside seen found)
    (ap (λ (n : ℕ). take k all ++ n ∷ []) is ∙ sym (take_more all k 0 less)) are

known : (classes : LabelClasses) (inside : List Bool) (seen found : List ℕ) (place : ℕ) → AreExceptions classes inside seen found
    → (is_inside inside place ≡ false → excepts classes found place ≡ true) → AreExceptions classes inside (seen ++ place ∷ []) found
known classes inside seen found place are is =
    record {
      outside = λ other has here.
          elim (place_more seen place other has) [
            | inl old ↦ are.outside other old here
            | inr same ↦ subst (λ (n : ℕ). excepts classes found n ≡ true) (sym same)
                (is (subst (λ (n : ℕ). is_inside inside n ≡ false) same here))
          ];
      within = λ other has. place_stays seen place other (are.within other has);
      except = are.except;
    }

pub inside_known : (classes : LabelClasses) (inside : List Bool) (seen found : List ℕ) (place : ℕ) → AreExceptions classes inside seen found
    → is_inside inside place ≡ true → AreExceptions classes inside (seen ++ place ∷ []) found
inside_known classes inside seen found place are here =
    known classes inside seen found place are (λ out. absurd (both_ways _ out here))

pub marked_known : (classes : LabelClasses) (inside marks : List Bool) (seen found : List ℕ) (place : ℕ)
    → AreExceptions classes inside seen found → AreMarks classes found marks → is_inside marks place ≡ true
    → AreExceptions classes inside (seen ++ place ∷ []) found
marked_known classes inside marks seen found place are marked is =
    known classes inside seen found place are
    (λ out. or_left _ (has_place found place) (sym (marked.marked place (inside_there marks place is)) ∙ is))

-- ---- parts

pub covers_serves : (classes : LabelClasses) (parts : List ClassPart) (other : ℕ) → list_any (covers classes other) parts ≡ true
    → is_served classes other parts ≡ true
covers_serves classes parts other some =
    let one = Any-from_list_any (covers classes other) parts some in
    list_any-from_Any (serves classes other) parts
    (one.0, one.1, one.2, one.3, or_left (covers classes other one.1) (nat_eq one.1.place other) one.4)

pub serves_more : (classes : LabelClasses) (parts : List ClassPart) (part : ClassPart) (other : ℕ) → is_served classes other parts ≡ true
    → is_served classes other (parts ++ part ∷ []) ≡ true
serves_more classes parts part other served =
    list_any-append (serves classes other) parts (part ∷ []) ∙ or_left _ (is_served classes other (part ∷ [])) served

pub serves_last : (classes : LabelClasses) (parts : List ClassPart) (part : ClassPart) (other : ℕ) → part.place ≡ other
    → is_served classes other (parts ++ part ∷ []) ≡ true
serves_last classes parts part other own =
    list_any-append (serves classes other) parts (part ∷ [])
    ∙ or_right (is_served classes other parts) _ (or_left _ false (or_right (covers classes other part) _ (eq-eqb part.place other own)))

-- ---- patterns and shapes

pub class_is : (classes : LabelClasses) (shown : List LabelClass) (place : ℕ) (class : LabelClass) → shown ≡ classes.classes.items
    → place < length shown → class ≡ get_or shown place class → slice_get classes.classes.items place ≡ Some class
class_is classes shown place class same there is =
    subst (λ (xs : List LabelClass). slice_get xs place ≡ Some class) same (slice_get_read shown (length shown) place class refl there is)

pub class_none : (classes : LabelClasses) (shown : List LabelClass) (place : ℕ) → shown ≡ classes.classes.items → length shown ≤ place
    → slice_get classes.classes.items place ≡ None
class_none classes shown place same past =
    subst (λ (xs : List LabelClass). slice_get xs place ≡ None) same (slice_get_past shown place past)

pub pattern_more : (classes : LabelClasses) (front end place : ℕ) (label : List ℕ) (patterns : List Pattern) (class : LabelClass) (pattern : Pattern)
    → slice_get classes.classes.items place ≡ Some class → pattern ≡ pattern_of classes front end class
    → list_any (has_label label) (patterns ++ pattern ∷ [])
    ≡ (list_any (has_label label) patterns || has_pattern_at classes front end label place)
pattern_more classes front end place label patterns class pattern there is =
    list_any-append (has_label label) patterns (pattern ∷ [])
    ∙ ap (λ b. list_any (has_label label) patterns || b)
    (or_false (has_label label pattern)
    ∙ (ap (has_label label) is
    ∙ sym (ap (λ (o : Option LabelClass). has_pattern classes front end label o) there)))

pub pattern_none : (classes : LabelClasses) (front end place : ℕ) (label : List ℕ) (patterns : List Pattern)
    → slice_get classes.classes.items place ≡ None
    → list_any (has_label label) patterns ≡ (list_any (has_label label) patterns || has_pattern_at classes front end label place)
pattern_none classes front end place label patterns none =
    sym (or_false (list_any (has_label label) patterns))
    ∙ ap (λ b. list_any (has_label label) patterns || b) (sym (ap (λ (o : Option LabelClass). has_pattern classes front end label o) none))

pub shape_more : (classes : LabelClasses) (part : ClassPart) (label : List ℕ) (shapes : List Shape) (class : LabelClass) (shape : Shape)
    → slice_get classes.classes.items part.place ≡ Some class → shape.pattern ≡ pattern_of classes 0 0 class
    → list_any (has_label label) shape.except.items ≡ has_any_pattern classes class.front class.end label part.except.items
    → list_any (is_in label) (shapes ++ shape ∷ []) ≡ (list_any (is_in label) shapes || is_in_part classes label part)
shape_more classes part label shapes class shape there pattern except =
    list_any-append (is_in label) shapes (shape ∷ [])
    ∙ ap (λ b. list_any (is_in label) shapes || b)
    (or_false (is_in label shape)
    ∙ (ap (λ p. has_label label p && not (list_any (has_label label) shape.except.items)) pattern
    ∙ (ap (λ b. has_label label (pattern_of classes 0 0 class) && not b) except
    ∙ sym (ap (λ (o : Option LabelClass). is_in_class classes label part.except.items o) there))))

pub shape_none : (classes : LabelClasses) (part : ClassPart) (label : List ℕ) (shapes : List Shape)
    → slice_get classes.classes.items part.place ≡ None
    → list_any (is_in label) shapes ≡ (list_any (is_in label) shapes || is_in_part classes label part)
shape_none classes part label shapes none =
    sym (or_false (list_any (is_in label) shapes))
    ∙ ap (λ b. list_any (is_in label) shapes || b) (sym (ap (λ (o : Option LabelClass). is_in_class classes label part.except.items o) none))
