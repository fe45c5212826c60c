-- Classes that are made one after another.
use Rattle.std.proofs.Common.{◌≡◌, ℕ, ◌+◌, ◌<◌, ◌≤◌, Bool, true, false, ◌&&◌, ◌||◌, List, [], ◌∷◌, ◌++◌, length, nat_eq, get_or, refl, sym, subst, ap, ◌∙◌, arith, ◌⊎◌, inl, inr}
use Rattle.std.specs.Prelude.{not}
use Rattle.std.specs.List.{list_any}
use Rattle.std.specs.Str.{bytes_eq}
use Rattle.std.proofs.lemmas.Bool.{and_from, and_parts, both_ways, cases_lt, eq-eqb, false_from_ne_true, ne_eqb, or_left, or_right}
use Rattle.std.proofs.lemmas.List.{get_or_default}
use Rattle.std.proofs.lemmas.List.Elements.{All-push}
use Rattle.std.proofs.lemmas.List.Folds.{Any-from_list_any, list_any-append, list_any_at}
use Rattle.std.proofs.lemmas.List.Quantifiers.{all_pairs_push}
use Rattle.std.proofs.lemmas.Slice.Eq.{bytes_eq-Decides}
use Rattle.list_labels.specs.GivenLabels.{IsGiven}
use Rattle.list_labels.specs.KnownLabels.{is_among}
use Rattle.list_classes.specs.Classes.{IsLongestIn, is_single}
use Rattle.list_classes.specs.Making.{AreMade, AreMadeBefore, AreSingle, HaveSeveral, IsBefore, IsMade, has_several, has_single, is_same_class, is_several}
use Rattle.list_classes.specs.declared.text_tree.TextTree.{TextTree}
use Rattle.list_classes.specs.Witnesses.{IsWitness}
use Rattle.list_classes.specs.declared.label_class.LabelClass.{LabelClass}
use Rattle.list_classes.specs.declared.witness.TextPair.{TextPair}

-- ---- two classes

several_apart : (a b s t : Bool) → a ≡ false → t ≡ false → ((a && (b && s)) || (not a && (not b && t))) ≡ false
several_apart true b s t is other = cc
several_apart false true s t is other = refl
several_apart false false s t is other = other

one_apart : (a b s t : Bool) → b ≡ true → (a && s) ≡ false → ((a && (b && s)) || (not a && (not b && t))) ≡ false
one_apart true true s t is other = ap (λ x. x || false) other
one_apart false true s t is other = refl
one_apart a false s t is other = cc

apart_before : (f e front end : ℕ) → (f < front) ⊎ ((f ≡ front) × (e < end)) → (nat_eq f front && nat_eq e end) ≡ false
apart_before f e front end (inl less) = ap (λ b. b && nat_eq e end) (ne_eqb f front (λ is. omega (arith, is, less)))
apart_before f e front end (inr both) =
    let less = both.1 in
    false_from_ne_true _ (λ is. both_ways _ (ne_eqb e end (λ same. omega (arith, same, less))) (and_parts (nat_eq f front) _ is).1)

-- ---- classes of several labels

later : (front end : ℕ) (class : LabelClass) → IsBefore front end class → IsBefore front (end + 1) class
later front end class is =
    record {
      several = is.several;
      before = elim (is.before) [ inl less ↦ inl less | inr both ↦ (let less = both.1 in inr (both.0, omega (arith, less))) ];
    }

several_is : (front end : ℕ) (class : LabelClass) → class.is_one ≡ false → class.front ≡ front → class.end ≡ end → is_several front end class ≡ true
several_is front end class several at_front at_end =
    and_from _ _ (ap not several) (and_from _ _ (eq-eqb class.front front at_front) (eq-eqb class.end end at_end))

-- a test that one of some classes passes, or one more
has_stays : (test : LabelClass → Bool) (old : List LabelClass) (class : LabelClass) → (list_any test old ≡ true) ⊎ (test class ≡ true)
    → list_any test (old ++ class ∷ []) ≡ true
has_stays test old class (inl there) = list_any-append test old (class ∷ []) ∙ or_left _ (list_any test (class ∷ [])) there
has_stays test old class (inr here) = list_any-append test old (class ∷ []) ∙ or_right (list_any test old) _ (or_left _ false here)

-- those before the next pair are before this one, or this one
pair_cases : (f e front end : ℕ) → (f < front) ⊎ ((f ≡ front) × (e < end + 1)) → ((f < front) ⊎ ((f ≡ front) × (e < end))) ⊎ ((f ≡ front) × (e ≡ end))
pair_cases f e front end (inl less) = inl (inl less)
pair_cases f e front end (inr both) =
    let below = both.1 in
    elim (cases_lt e end) [
      | inl less ↦ inl (inr (both.0, less))
      | inr above ↦ inr (both.0, omega (arith, below, above))
    ]

-- a class more of several labels
pub pair_added : (fronts ends : TextTree) (known : List (List ℕ)) (front end : ℕ) (old new : List LabelClass) (class : LabelClass)
    → AreMadeBefore fronts ends known front end old → class.front ≡ front → class.end ≡ end → class.is_one ≡ false
    → IsLongestIn fronts class.witness front → IsLongestIn ends class.witness end → is_among known class.witness ≡ false
    → ((label : List ℕ) → IsGiven label → IsLongestIn fronts label front → IsLongestIn ends label end → is_among known label ≡ false
    → length class.witness ≤ length label)
    → new ≡ old ++ class ∷ [] → AreMadeBefore fronts ends known front (end + 1) new
pair_added fronts ends known front end old new class made at_front at_end several longest_front longest_end unknown least is =
    subst (λ n. AreMadeBefore fronts ends known front (end + 1) n) (sym is)
    (record {
      are = record {
        made = All-push (IsMade fronts ends known) old class made.are.made
            (record {
              front = subst (λ n. IsLongestIn fronts class.witness n) (sym at_front) longest_front;
              end = subst (λ n. IsLongestIn ends class.witness n) (sym at_end) longest_end;
              is_one = several ∙ sym unknown;
              least = λ is_several label given front_is end_is none.
                  least label given (subst (λ n. IsLongestIn fronts label n) at_front front_is)
                  (subst (λ n. IsLongestIn ends label n) at_end end_is) none;
            });
        apart = all_pairs_push (λ class another. is_same_class class another ≡ false) old class made.are.apart
            (λ k d within. let before = made.before k d within in
            several_apart (get_or old k d).is_one class.is_one (bytes_eq (get_or old k d).witness class.witness)
            (nat_eq (get_or old k d).front class.front && nat_eq (get_or old k d).end class.end) before.several
            (apart_before (get_or old k d).front (get_or old k d).end class.front class.end
            (subst (λ n. ((get_or old k d).front < n) ⊎ (((get_or old k d).front ≡ n) × ((get_or old k d).end < class.end))) (sym at_front)
            (subst (λ n. ((get_or old k d).front < front) ⊎ (((get_or old k d).front ≡ front) × ((get_or old k d).end < n))) (sym at_end)
            before.before))));
      };
      before = All-push (IsBefore front (end + 1)) old class (λ k d within. later front end (get_or old k d) (made.before k d within))
          (record { several = several; before = inr (at_front, omega (arith, at_end)) });
      all = λ f e before label given front_is end_is none.
          has_stays (is_several f e) old class
          (elim (pair_cases f e front end before) [
            | inl earlier ↦ inl (made.all f e earlier label given front_is end_is none)
            | inr same ↦ inr (several_is f e class several (at_front ∙ sym same.0) (at_end ∙ sym same.1))
          ]);
    })

-- nothing more
pub pair_none : (fronts ends : TextTree) (known : List (List ℕ)) (front end : ℕ) (classes : List LabelClass)
    → AreMadeBefore fronts ends known front end classes
    → ((label : List ℕ) → IsGiven label → IsLongestIn fronts label front → IsLongestIn ends label end → is_among known label ≡ false → ⊥)
    → AreMadeBefore fronts ends known front (end + 1) classes
pair_none fronts ends known front end classes made none_there =
    record {
      are = made.are;
      before = λ k d within. later front end (get_or classes k d) (made.before k d within);
      all = λ f e before label given front_is end_is none.
          elim (pair_cases f e front end before) [
            | inl earlier ↦ made.all f e earlier label given front_is end_is none
            | inr same ↦ absurd (none_there label given (subst (λ n. IsLongestIn fronts label n) same.0 front_is)
                (subst (λ n. IsLongestIn ends label n) same.1 end_is) none)
          ];
    }

row_cases : (f front : ℕ) → f < front + 1 → (f < front) ⊎ (f ≡ front)
row_cases f front below = elim (cases_lt f front) [ inl less ↦ inl less | inr above ↦ inr (omega (arith, below, above)) ]

-- a whole row
pub row_done : (fronts ends : TextTree) (known : List (List ℕ)) (front end : ℕ) (classes : List LabelClass) → length ends.texts.items ≤ end
    → AreMadeBefore fronts ends known front end classes → AreMadeBefore fronts ends known (front + 1) 0 classes
row_done fronts ends known front end classes whole made =
    record {
      are = made.are;
      before = λ k d within. let is = made.before k d within in
          record {
            several = is.several;
            before = elim (is.before) [ inl less ↦ inl (omega (arith, less)) | inr both ↦ (let same = both.0 in inl (omega (arith, same))) ];
          };
      all = λ f e before label given front_is end_is none.
          let within = end_is.there in
          made.all f e
          (elim (row_cases f front (elim before [ inl less ↦ less | inr both ↦ absurd (let less = both.1 in omega (arith, less)) ])) [
            | inl earlier ↦ inl earlier
            | inr same ↦ inr (same, omega (arith, whole, within))
          ])
          label given front_is end_is none;
    }

-- all rows
pub all_made : (fronts ends : TextTree) (known : List (List ℕ)) (front : ℕ) (classes : List LabelClass) → length fronts.texts.items ≤ front
    → AreMadeBefore fronts ends known front 0 classes → HaveSeveral fronts ends known classes
all_made fronts ends known front classes whole made f e label given front_is end_is none =
    let within = front_is.there in
    made.all f e (inl (omega (arith, whole, within))) label given front_is end_is none

pub none_made : (fronts ends : TextTree) (known : List (List ℕ)) → AreMadeBefore fronts ends known 0 0 []
none_made fronts ends known =
    record {
      are = record { made = λ k d within. absurd (omega (arith, within)); apart = λ i j d less within. absurd (omega (arith, within)) };
      before = λ k d within. absurd (omega (arith, within));
      all = λ f e before label given front_is end_is none.
          absurd (elim before [ inl less ↦ omega (arith, less) | inr both ↦ (let less = both.1 in omega (arith, less)) ]);
    }

-- ---- classes of one label

pub none_single : (classes : List LabelClass) (label : List ℕ) (k : ℕ) (d : LabelClass) → k < length classes
    → has_single classes label ≡ false → is_single label (get_or classes k d) ≡ false
none_single classes label k d within none =
    false_from_ne_true _ (λ is. both_ways _ none (list_any_at (is_single label) classes k d within is))

-- a class more of one label
pub one_added : (fronts ends : TextTree) (known : List (List ℕ)) (old new : List LabelClass) (class : LabelClass) (label : List ℕ)
    → AreMade fronts ends known old → class.is_one ≡ true → class.witness ≡ label → IsLongestIn fronts label class.front
    → IsLongestIn ends label class.end → is_among known label ≡ true → has_single old label ≡ false
    → new ≡ old ++ class ∷ [] → AreMade fronts ends known new
one_added fronts ends known old new class label made one shown longest_front longest_end there none is =
    subst (λ n. AreMade fronts ends known n) (sym is)
    (record {
      made = All-push (IsMade fronts ends known) old class made.made
          (record {
            front = subst (λ l. IsLongestIn fronts l class.front) (sym shown) longest_front;
            end = subst (λ l. IsLongestIn ends l class.end) (sym shown) longest_end;
            is_one = one ∙ (sym there ∙ ap (λ l. is_among known l) (sym shown));
            least = λ several. absurd (both_ways _ several one);
          });
      apart = all_pairs_push (λ class another. is_same_class class another ≡ false) old class made.apart
          (λ k d within. one_apart (get_or old k d).is_one class.is_one (bytes_eq (get_or old k d).witness class.witness)
          (nat_eq (get_or old k d).front class.front && nat_eq (get_or old k d).end class.end) one
          (ap (λ l. (get_or old k d).is_one && bytes_eq (get_or old k d).witness l) shown ∙ none_single old label k d within none));
    })

-- those that were there stay
pub single_stays : (old new : List LabelClass) (class : LabelClass) (label : List ℕ) → new ≡ old ++ class ∷ []
    → has_single old label ≡ true → has_single new label ≡ true
single_stays old new class label is there =
    ap (λ n. has_single n label) is
    ∙ (list_any-append (is_single label) old (class ∷ []) ∙ or_left _ (has_single (class ∷ []) label) there)

pub several_stays : (old new : List LabelClass) (class : LabelClass) (front end : ℕ) → new ≡ old ++ class ∷ []
    → has_several old front end ≡ true → has_several new front end ≡ true
several_stays old new class front end is there =
    ap (λ n. has_several n front end) is ∙ has_stays (is_several front end) old class (inl there)

pub single_there : (old new : List LabelClass) (class : LabelClass) (label : List ℕ) → new ≡ old ++ class ∷ []
    → class.is_one ≡ true → class.witness ≡ label → has_single new label ≡ true
single_there old new class label is one shown =
    ap (λ n. has_single n label) is
    ∙ (list_any-append (is_single label) old (class ∷ [])
    ∙ or_right (has_single old label) _ (or_left _ false (and_from _ _ one ((bytes_eq-Decides class.witness label).1 shown))))

-- each of the known labels so far
abbrev pub SingleTo : List (List ℕ) → ℕ → List LabelClass → Type 0
SingleTo known bound classes = (k : ℕ) (d : List ℕ) → k < bound → has_single classes (get_or known k d) ≡ true

pub single_more : (known : List (List ℕ)) (label : List ℕ) (place : ℕ) (old new : List LabelClass) → place < length known
    → label ≡ get_or known place label → SingleTo known place old
    → ((other : List ℕ) → has_single old other ≡ true → has_single new other ≡ true)
    → has_single new label ≡ true → SingleTo known (place + 1) new
single_more known label place old new within at so_far stays there k d less =
    elim (cases_lt k place) [
      | inl below ↦ stays (get_or known k d) (so_far k d below)
      | inr above ↦
          (let same : k ≡ place = omega (arith, above, less) in
          subst (λ l. has_single new l ≡ true)
          (at ∙ (get_or_default known place label d within ∙ ap (λ n. get_or known n d) (sym same))) there)
    ]

pub single_all : (known : List (List ℕ)) (place : ℕ) (classes : List LabelClass) → length known ≤ place → SingleTo known place classes
    → AreSingle known classes
single_all known place classes all single label there =
    let one = Any-from_list_any (λ other. bytes_eq other label) known there in
    let within : one.0 < length known = one.2 in
    subst (λ l. has_single classes l ≡ true) (one.3 ∙ (bytes_eq-Decides one.1 label).0 one.4)
    (single one.0 one.1 (omega (arith, all, within)))

pub known_among : (known : List (List ℕ)) (label : List ℕ) (place : ℕ) → place < length known → label ≡ get_or known place label
    → is_among known label ≡ true
known_among known label place within at =
    list_any_at (λ other. bytes_eq other label) known place label within ((bytes_eq-Decides (get_or known place label) label).1 (sym at))

-- a label with the texts of a pair that isn't known
pub witness_is : (pair : TextPair) (label : List ℕ) (front end : ℕ) (b : Bool) → IsLongestIn pair.parts.fronts.now label front
    → IsLongestIn pair.parts.ends.now label end → front ≡ pair.front → end ≡ pair.end → b ≡ is_among pair.parts.known.now label
    → not b ≡ true → IsWitness pair label
witness_is pair label front end true longest_front longest_end front_is end_is is lost = cc
witness_is pair label front end false longest_front longest_end front_is end_is is lost =
    record {
      front = subst (λ n. IsLongestIn pair.parts.fronts.now label n) front_is longest_front;
      end = subst (λ n. IsLongestIn pair.parts.ends.now label n) end_is longest_end;
      unknown = sym is;
    }
