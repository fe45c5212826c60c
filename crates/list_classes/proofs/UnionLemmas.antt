-- The shapes of parts have exactly the labels of the classes inside.
use Rattle.std.proofs.Common.{◌≡◌, ℕ, ◌<◌, Bool, true, false, ◌&&◌, ◌||◌, List, [], ◌∷◌, length, nat_eq, Option, Some, None, refl, sym, subst, ap, ◌∙◌, inl, inr}
use Rattle.std.specs.Prelude.{All, IfOk, Result, Ok, Err, not, if◌then◌else◌}
use Rattle.std.specs.List.{list_any, slice_get}
use Rattle.std.specs.Str.{bytes_eq}
use Rattle.std.proofs.lemmas.Bool.{and_from, and_parts, both_ways, cases_Bool, eq-eqb, eqb-true, false_from_ne_true, not-true, not_from_false, or_cases, true_from_ne_false}
use Rattle.std.proofs.lemmas.List.Elements.{All-contains}
use Rattle.std.proofs.lemmas.List.Folds.{Any-from_list_any, list_any-from_Any, list_any_at}
use Rattle.std.proofs.lemmas.Option.{get_or_from_slice_get, slice_get_within}
use Rattle.std.proofs.lemmas.Slice.Eq.{bytes_eq-Decides}
use Rattle.list_labels.specs.LabelSets.{has_label, set_has}
use Rattle.list_labels.specs.declared.pattern.LabelSet.{LabelSet}
use Rattle.list_labels.specs.declared.pattern.Pattern.TheVariants.{Exactly, Between}
use Rattle.list_labels.proofs.TextLemmas.{same_tests}
use Rattle.list_classes.specs.Trees.{has_at, has_place, row_at, text_at}
use Rattle.list_classes.specs.Classes.{AreClasses, IsLongestIn, IsOf, is_between, is_own, is_single, places_at}
use Rattle.list_classes.specs.Parts.{IsPart, ServeAll, covers, excepts, has_pattern, is_below, is_for_ends, is_in_class, is_in_part, is_inside, is_within, is_within_any, is_within_class, pattern_of, serves, text_unless}
use Rattle.list_classes.specs.Described.{AreWhole, IsUnionOf}
use Rattle.list_classes.specs.declared.class_part.ClassPart.{ClassPart}
use Rattle.list_classes.specs.declared.label_class.LabelClass.{LabelClass}
use Rattle.list_classes.specs.declared.label_classes.LabelClasses.{LabelClasses}
use Rattle.list_classes.specs.declared.text_tree.LabelSide.{LabelSide}
use Rattle.list_classes.specs.declared.text_tree.TextTree.{TextTree}
use Rattle.list_classes.proofs.TreeLemmas.{any_alike, any_of, has_both, has_empty, has_itself, longest_has, one_of}

-- ---- tests

any_and : (b : Bool) (p : ℕ → Bool) (xs : List ℕ) → list_any (λ x. b && p x) xs ≡ (b && list_any p xs)
any_and true p xs = refl
any_and false p [] = refl
any_and false p (x ∷ xs) = any_and false p xs

spread : (a c t s : Bool) → t ≡ (s && c) → ((a && c) || t) ≡ ((a || s) && c)
spread true true t s is = refl
spread true false t true is = is
spread true false t false is = is
spread false c t s is = is

any_and_right : (c : Bool) (p : ℕ → Bool) (xs : List ℕ) → list_any (λ x. p x && c) xs ≡ (list_any p xs && c)
any_and_right c p [] = refl
any_and_right c p (x ∷ xs) = spread (p x) c _ (list_any p xs) (any_and_right c p xs)

and_same : (a b c d : Bool) → a ≡ b → c ≡ d → (a && c) ≡ (b && d)
and_same a b c d first second = cc

and_then : (a b c d : Bool) → a ≡ b → (b ≡ true → c ≡ d) → (a && c) ≡ (b && d)
and_then a true c d first second = and_same a true c d first (second refl)
and_then a false c d first second = ap (λ x. x && c) first

any_get : {X : Type 0} (p : X → Bool) (xs : List X) (k : ℕ) (x : X) → slice_get xs k ≡ Some x → p x ≡ true → list_any p xs ≡ true
any_get p xs k x there holds =
    list_any_at p xs k x (slice_get_within xs k x there) (ap p (get_or_from_slice_get xs k x x there) ∙ holds)

-- ---- one tree

-- a label has a text just if its longest one is below it
text_below : (tree : TextTree) (label : List ℕ) (place longest : ℕ) → place < length tree.texts.items → IsLongestIn tree label longest
    → has_at tree.side label (text_at tree.texts.items place) ≡ has_place (row_at tree.below.items place) longest
text_below tree label place longest there is =
    longest_has tree.side tree.texts.items label longest place is there ∙ sym (tree.formed.below.below place longest there is.there)

row_itself : (tree : TextTree) (place : ℕ) → place < length tree.texts.items → has_place (row_at tree.below.items place) place ≡ true
row_itself tree place there = tree.formed.below.below place place there there ∙ has_itself tree.side (text_at tree.texts.items place)

-- places below each other are the same
same_place : (tree : TextTree) (a b : ℕ) → a < length tree.texts.items → b < length tree.texts.items
    → has_place (row_at tree.below.items a) b ≡ true → has_place (row_at tree.below.items b) a ≡ true → a ≡ b
same_place tree a b there also first second =
    tree.formed.each.once a b there also
    (has_both tree.side (text_at tree.texts.items a) (text_at tree.texts.items b)
    (sym (tree.formed.below.below b a also there) ∙ second) (sym (tree.formed.below.below a b there also) ∙ first))

first_text : (tree : TextTree) (label : List ℕ) → has_at tree.side label (text_at tree.texts.items 0) ≡ true
first_text tree label = ap (λ (t : List ℕ). has_at tree.side label t) tree.formed.each.first ∙ has_empty tree.side label

-- a text may be left out where a label has it
unless_has : (side : LabelSide) (texts : List (List ℕ)) (label : List ℕ) (place other : ℕ) → has_at side label (text_at texts other) ≡ true
    → has_at side label (text_unless texts place other) ≡ has_at side label (text_at texts place)
unless_has side texts label place other has =
    elim (cases_Bool (nat_eq place other)) [
      | inl same ↦
          ap (λ (b : Bool). has_at side label (if b then [] else text_at texts place)) same
          ∙ (has_empty side label
          ∙ sym (ap (λ (n : ℕ). has_at side label (text_at texts n)) (eqb-true place other same) ∙ has))
      | inr apart ↦ ap (λ (b : Bool). has_at side label (if b then [] else text_at texts place)) apart
    ]

-- ---- classes within a class

abbrev pub Formed : LabelClasses → Type 0
Formed classes = AreClasses classes.fronts classes.ends classes.classes.items classes.at.items

abbrev IsAt : LabelClasses → ℕ → LabelClass → Type 0
IsAt classes place class = slice_get classes.classes.items place ≡ Some class

abbrev OfClass : LabelClasses → ℕ → List ℕ → Type 0
OfClass classes place label = IsOf classes.fronts classes.ends classes.classes.items place label

within_one : (classes : LabelClasses) (place other : ℕ) (class : LabelClass) → IsAt classes place class → class.is_one ≡ true
    → is_within classes place other ≡ nat_eq other place
within_one classes place other class there one =
    ap (λ (o : Option LabelClass). is_within_class classes place other o) there
    ∙ ap (λ (b : Bool). if b then nat_eq other place else is_below classes class other) one

within_several : (classes : LabelClasses) (place other : ℕ) (class : LabelClass) → IsAt classes place class → class.is_one ≡ false
    → is_within classes place other ≡ is_below classes class other
within_several classes place other class there several =
    ap (λ (o : Option LabelClass). is_within_class classes place other o) there
    ∙ ap (λ (b : Bool). if b then nat_eq other place else is_below classes class other) several

same_class : (classes : LabelClasses) (place other : ℕ) (class another : LabelClass) → IsAt classes place class → IsAt classes other another
    → place ≡ other → class ≡ another
same_class classes place other class another there also same =
    let is : slice_get classes.classes.items place ≡ slice_get classes.classes.items other = ap (λ (n : ℕ). slice_get classes.classes.items n) same in
    cc

-- a class is below another one just if its beginning and its ending are
below_is : (classes : LabelClasses) → Formed classes → (class : LabelClass) (place : ℕ) (another : LabelClass) → IsAt classes place another
    → is_below classes class place
    ≡ (has_place (row_at classes.fronts.below.items class.front) another.front && has_place (row_at classes.ends.below.items class.end) another.end)
below_is classes formed class place another there =
    let ends = row_at classes.ends.below.items class.end in
    let fronts = row_at classes.fronts.below.items class.front in
    any_alike (λ front. is_for_ends classes front place ends) (λ front. nat_eq another.front front && has_place ends another.end) fronts
    (λ front first.
    any_alike (λ end. has_place (places_at classes.at.items front end) place) (λ end. nat_eq another.front front && nat_eq another.end end) ends
    (λ end second.
    formed.listed front end place (classes.fronts.formed.below.within class.front front first) (classes.ends.formed.below.within class.end end second)
    ∙ ap (λ (o : Option LabelClass). is_between o front end) there)
    ∙ any_and (nat_eq another.front front) (nat_eq another.end) ends)
    ∙ any_and_right (has_place ends another.end) (nat_eq another.front) fronts

within_itself : (classes : LabelClasses) → Formed classes → (place : ℕ) (class : LabelClass) → IsAt classes place class
    → is_within classes place place ≡ true
within_itself classes formed place class there =
    elim (cases_Bool class.is_one) [
      | inl one ↦ within_one classes place place class there one ∙ eq-eqb place place refl
      | inr several ↦
          within_several classes place place class there several
          ∙ (below_is classes formed class place class there
          ∙ and_from _ _ (row_itself classes.fronts class.front (formed.fronts_there place class there))
          (row_itself classes.ends class.end (formed.ends_there place class there)))
    ]

within_parts : (classes : LabelClasses) → Formed classes → (place other : ℕ) (class another : LabelClass) → IsAt classes place class
    → IsAt classes other another → class.is_one ≡ false → is_within classes place other ≡ true
    → (has_place (row_at classes.fronts.below.items class.front) another.front ≡ true)
    × (has_place (row_at classes.ends.below.items class.end) another.end ≡ true)
within_parts classes formed place other class another there also several within =
    and_parts _ _
    (sym (below_is classes formed class other another also) ∙ (sym (within_several classes place other class there several) ∙ within))

-- classes within each other are the same
apart_case : (classes : LabelClasses) → Formed classes → (place other : ℕ) (class : LabelClass) → IsAt classes place class
    → (o : Option LabelClass) → slice_get classes.classes.items other ≡ o
    → is_within classes other place ≡ true → is_within classes place other ≡ true → other ≡ place
apart_case classes formed place other class there None is first second =
    absurd (both_ways false refl (sym (ap (λ (o : Option LabelClass). is_within_class classes other place o) is) ∙ first))
apart_case classes formed place other class there (Some another) is first second =
    elim (cases_Bool another.is_one) [
      | inl one ↦ sym (eqb-true place other (sym (within_one classes other place another is one) ∙ first))
      | inr several ↦ elim (cases_Bool class.is_one) [
        | inl one ↦ eqb-true other place (sym (within_one classes place other class there one) ∙ second)
        | inr many ↦
            let out = within_parts classes formed other place another class is there several first in
            let back = within_parts classes formed place other class another there is many second in
            formed.several_once other place another class is there several many
            (same_place classes.fronts another.front class.front (formed.fronts_there other another is) (formed.fronts_there place class there) out.0 back.0)
            (same_place classes.ends another.end class.end (formed.ends_there other another is) (formed.ends_there place class there) out.1 back.1)
      ]
    ]

-- ---- the pattern of a class

-- a label of a class within another one has the texts of that
within_has : (classes : LabelClasses) → Formed classes → (outer : ℕ) (class : LabelClass) → IsAt classes outer class
    → (place : ℕ) (label : List ℕ) → OfClass classes place label → is_within classes outer place ≡ true
    → (has_at classes.fronts.side label (text_at classes.fronts.texts.items class.front) ≡ true)
    × (has_at classes.ends.side label (text_at classes.ends.texts.items class.end) ≡ true)
within_has classes formed outer class there place label of within =
    elim (cases_Bool class.is_one) [
      | inl one ↦
          let same = eqb-true place outer (sym (within_one classes outer place class there one) ∙ within) in
          let is = same_class classes place outer of.class class of.there there same in (
            subst (λ (c : LabelClass). has_at classes.fronts.side label (text_at classes.fronts.texts.items c.front) ≡ true) is of.front.has,
            subst (λ (c : LabelClass). has_at classes.ends.side label (text_at classes.ends.texts.items c.end) ≡ true) is of.end.has,
          )
      | inr several ↦
          let both = within_parts classes formed outer place class of.class there of.there several within in (
            text_below classes.fronts label class.front of.class.front (formed.fronts_there outer class there) of.front ∙ both.0,
            text_below classes.ends label class.end of.class.end (formed.ends_there outer class there) of.end ∙ both.1,
          )
    ]

-- a label that is a class by itself is of that class alone
one_there : (classes : LabelClasses) → Formed classes → (outer : ℕ) (class : LabelClass) → IsAt classes outer class → class.is_one ≡ true
    → (place : ℕ) (label : List ℕ) → OfClass classes place label → bytes_eq class.witness label ≡ true → nat_eq place outer ≡ true
one_there classes formed outer class there one place label of holds =
    elim (cases_Bool of.class.is_one) [
      | inl single ↦
          let own : bytes_eq of.class.witness label ≡ true =
          sym (ap (λ (b : Bool). if b then bytes_eq of.class.witness label else not (list_any (is_single label) classes.classes.items)) single) ∙ of.own in
          eq-eqb place outer
          (formed.one_once place outer of.class class of.there there single one
          ((bytes_eq-Decides of.class.witness label).0 own ∙ sym ((bytes_eq-Decides class.witness label).0 holds)))
      | inr several ↦
          let own : not (list_any (is_single label) classes.classes.items) ≡ true =
          sym (ap (λ (b : Bool). if b then bytes_eq of.class.witness label else not (list_any (is_single label) classes.classes.items)) several) ∙ of.own in
          absurd (both_ways _ (not-true _ own) (any_get (is_single label) classes.classes.items outer class there (and_from _ _ one holds)))
    ]

one_back : (classes : LabelClasses) (outer : ℕ) (class : LabelClass) → IsAt classes outer class → class.is_one ≡ true
    → (place : ℕ) (label : List ℕ) → OfClass classes place label → nat_eq place outer ≡ true → bytes_eq class.witness label ≡ true
one_back classes outer class there one place label of same =
    let is = same_class classes place outer of.class class of.there there (eqb-true place outer same) in
    let own = subst (λ (c : LabelClass). is_own classes.classes.items c label ≡ true) is of.own in
    sym (ap (λ (b : Bool). if b then bytes_eq class.witness label else not (list_any (is_single label) classes.classes.items)) one) ∙ own

-- a label has the pattern of a class, without texts that it has, just if its class is within that
pattern_is : (classes : LabelClasses) → Formed classes → (outer : ℕ) (class : LabelClass) → IsAt classes outer class
    → (place : ℕ) (label : List ℕ) → OfClass classes place label → (front end : ℕ)
    → has_at classes.fronts.side label (text_at classes.fronts.texts.items front) ≡ true
    → has_at classes.ends.side label (text_at classes.ends.texts.items end) ≡ true
    → has_label label (pattern_of classes front end class) ≡ is_within classes outer place
pattern_is classes formed outer class there place label of front end begins stops =
    let first = text_unless classes.fronts.texts.items class.front front in
    let last = text_unless classes.ends.texts.items class.end end in
    let by = λ (b : Bool). has_label label (if b then Exactly class.witness else Between first last) in
    elim (cases_Bool class.is_one) [
      | inl one ↦
          ap by one
          ∙ (same_tests (bytes_eq class.witness label) (nat_eq place outer) (one_there classes formed outer class there one place label of)
          (one_back classes outer class there one place label of)
          ∙ sym (within_one classes outer place class there one))
      | inr several ↦
          ap by several
          ∙ (and_same _ _ _ _
          (sym (ap (λ (s : LabelSide). has_at s label first) formed.front_side)
          ∙ (unless_has classes.fronts.side classes.fronts.texts.items label class.front front begins
          ∙ text_below classes.fronts label class.front of.class.front (formed.fronts_there outer class there) of.front))
          (sym (ap (λ (s : LabelSide). has_at s label last) formed.end_side)
          ∙ (unless_has classes.ends.side classes.ends.texts.items label class.end end stops
          ∙ text_below classes.ends label class.end of.class.end (formed.ends_there outer class there) of.end))
          ∙ (sym (below_is classes formed class place of.class of.there) ∙ sym (within_several classes outer place class there several)))
    ]

other_case : (classes : LabelClasses) → Formed classes → (place : ℕ) (label : List ℕ) → OfClass classes place label → (front end : ℕ)
    → has_at classes.fronts.side label (text_at classes.fronts.texts.items front) ≡ true
    → has_at classes.ends.side label (text_at classes.ends.texts.items end) ≡ true
    → (other : ℕ) (o : Option LabelClass) → slice_get classes.classes.items other ≡ o
    → has_pattern classes front end label o ≡ is_within_class classes other place o
other_case classes formed place label of front end begins stops other None is = refl
other_case classes formed place label of front end begins stops other (Some class) is =
    pattern_is classes formed other class is place label of front end begins stops
    ∙ ap (λ (o : Option LabelClass). is_within_class classes other place o) is

-- ---- the shape of a part

part_case : (classes : LabelClasses) → Formed classes → (place : ℕ) (label : List ℕ) → OfClass classes place label → (outer : ℕ) (except : List ℕ)
    → (o : Option LabelClass) → slice_get classes.classes.items outer ≡ o
    → is_in_class classes label except o ≡ (is_within_class classes outer place o && not (is_within_any classes except place))
part_case classes formed place label of outer except None is = refl
part_case classes formed place label of outer except (Some class) is =
    let same = ap (λ (o : Option LabelClass). is_within_class classes outer place o) is in
    and_then _ _ _ _
    (pattern_is classes formed outer class is place label of 0 0 (first_text classes.fronts label) (first_text classes.ends label) ∙ same)
    (λ within.
    let has = within_has classes formed outer class is place label of (same ∙ within) in
    ap not (any_alike (λ other. has_pattern classes class.front class.end label (slice_get classes.classes.items other))
    (λ other. is_within classes other place) except
    (λ other some. other_case classes formed place label of class.front class.end has.0 has.1 other (slice_get classes.classes.items other) refl)))

-- a label is in the shape of a part just if the part has its class
in_part_is : (classes : LabelClasses) → Formed classes → (place : ℕ) (label : List ℕ) → OfClass classes place label → (part : ClassPart)
    → is_in_part classes label part ≡ covers classes place part
in_part_is classes formed place label of part =
    part_case classes formed place label of part.place part.except.items (slice_get classes.classes.items part.place) refl

-- an exception is within itself
excepted : (classes : LabelClasses) → Formed classes → (place : ℕ) (class : LabelClass) → IsAt classes place class → (except : List ℕ)
    → excepts classes except place ≡ true → is_within_any classes except place ≡ true
excepted classes formed place class there except is =
    elim (or_cases (is_within_any classes except place) (has_place except place) is) [
      | inl within ↦ within
      | inr own ↦ any_of (λ other. is_within classes other place) except place own (within_itself classes formed place class there)
    ]

-- the part for a class inside has this class
own_part : (classes : LabelClasses) → Formed classes → (inside : List Bool) (place : ℕ) (class : LabelClass) → IsAt classes place class
    → is_inside inside place ≡ true → (part : ClassPart) → IsPart classes inside part → part.place ≡ place → covers classes place part ≡ true
own_part classes formed inside place class there here part is own =
    and_from _ _
    (ap (λ (n : ℕ). is_within classes n place) own ∙ within_itself classes formed place class there)
    (not_from_false _ (false_from_ne_true _ (λ some.
    let one = one_of (λ other. is_within classes other place) part.except.items some in
    let out = is.except one.0 one.1 in
    let same = apart_case classes formed place one.0 class there (slice_get classes.classes.items one.0) refl one.2
    (sym (ap (λ (n : ℕ). is_within classes n one.0) own) ∙ out.0) in
    both_ways _ out.1 (ap (λ (n : ℕ). is_inside inside n) same ∙ here))))

-- ---- all parts

pub union_of : (classes : LabelClasses) → Formed classes → (inside : List Bool) (parts : List ClassPart) → All (IsPart classes inside) parts
    → ServeAll classes inside parts → (place : ℕ) (label : List ℕ) → OfClass classes place label
    → list_any (is_in_part classes label) parts ≡ is_inside inside place
union_of classes formed inside parts all serve place label of =
    same_tests _ _
    (λ some.
    let one = Any-from_list_any (is_in_part classes label) parts some in
    let is = All-contains (IsPart classes inside) parts one.1 all (one.0, one.2, one.3) in
    let both = and_parts (is_within classes one.1.place place) (not (is_within_any classes one.1.except.items place))
    (sym (in_part_is classes formed place label of one.1) ∙ one.4) in
    true_from_ne_false _ (λ out. both_ways _ (not-true _ both.1)
    (excepted classes formed place of.class of.there one.1.except.items (is.outside place both.0 out))))
    (λ here.
    let one = Any-from_list_any (serves classes place) parts (serve place here) in
    let is = All-contains (IsPart classes inside) parts one.1 all (one.0, one.2, one.3) in
    let has : covers classes place one.1 ≡ true =
    elim (or_cases (covers classes place one.1) (nat_eq one.1.place place) one.4) [
      | inl has ↦ has
      | inr own ↦ own_part classes formed inside place of.class of.there here one.1 is (eqb-true one.1.place place own)
    ] in
    list_any-from_Any (is_in_part classes label) parts
    (one.0, one.1, one.2, one.3, in_part_is classes formed place label of one.1 ∙ has))

-- a set of the labels in the parts' shapes is the union
pub parts_union : (classes : LabelClasses) (inside : List Bool) (parts : List ClassPart) (set : LabelSet) → All (IsPart classes inside) parts
    → ServeAll classes inside parts → ((label : List ℕ) → set_has set label ≡ list_any (is_in_part classes label) parts)
    → Formed classes → IsUnionOf classes inside set
parts_union classes inside parts set all serve has formed place label of =
    has label ∙ union_of classes formed inside parts all serve place label of

pub described_by : {E : Type 0} (classes : LabelClasses) (inside : List Bool) (parts shown : List ClassPart) (result : Result LabelSet E)
    → shown ≡ parts → All (IsPart classes inside) parts → ServeAll classes inside parts
    → IfOk result (λ set. (label : List ℕ) → set_has set label ≡ list_any (is_in_part classes label) shown)
    → IfOk result (λ set. AreWhole classes → IsUnionOf classes inside set)
described_by classes inside parts shown (Ok set) same all serve has = λ whole.
    parts_union classes inside parts set all serve (λ label. has label ∙ ap (list_any (is_in_part classes label)) same) whole.are
described_by classes inside parts shown (Err error) same all serve has = has
