-- What holds of the classes of labels that are made of all that rules ask for.
use Rattle.std.proofs.Common.{◌≡◌, ℕ, ◌<◌, ◌≤◌, Bool, true, false, ◌&&◌, ◌||◌, List, [], ◌∷◌, length, nat_eq, get_or, Option, Some, None, refl, sym, subst, ap, ◌∙◌, arith, inl, inr}
use Rattle.std.specs.Prelude.{not, if◌then◌else◌}
use Rattle.std.specs.List.{slice_get}
use Rattle.std.specs.Global.{Vec}
use Rattle.std.specs.Str.{bytes_eq}
use Rattle.std.proofs.lemmas.Bool.{and_from, and_parts, both_ways, cases_lt, eqb-true, false_from_ne_true}
use Rattle.std.proofs.lemmas.Bool.Decides.{nat_tests}
use Rattle.std.proofs.lemmas.List.{get_or_default}
use Rattle.std.proofs.lemmas.List.Folds.{Any-from_list_any}
use Rattle.std.proofs.lemmas.Option.{get_or_from_slice_get, slice_get-get_or, slice_get_within}
use Rattle.std.proofs.lemmas.Slice.Eq.{bytes_eq-Decides}
use Rattle.list_labels.specs.Alike.{IsAlike, IsOfTexts}
use Rattle.list_labels.specs.Asked.{known}
use Rattle.list_labels.specs.GivenLabels.{IsGiven}
use Rattle.list_labels.specs.KnownLabels.{is_among, is_filled}
use Rattle.list_labels.specs.LabelRanges.{AskedLabel, fits}
use Rattle.list_labels.specs.declared.session_requests.SessionRequests.{SessionRequests}
use Rattle.list_labels.proofs.AlikeLemmas.{texts_alike}
use Rattle.list_labels.proofs.AskedLemmas.{given_is}
use Rattle.list_labels.proofs.TextLemmas.{same_tests}
use Rattle.list_classes.proofs.TreeLemmas.{has_longest, has_order, has_then}
use Rattle.list_classes.specs.Trees.{IsLongest, has_at, text_at}
use Rattle.list_classes.specs.Classes.{AreClasses, AreListed, IsLongestIn, IsOf, is_own, is_single}
use Rattle.list_classes.specs.Making.{AreApart, AreLeast, AreMade, AreRoutedAlike, AreSingle, HaveAsked, HaveEach, HaveSeveral, HaveWitnesses, IsMade, has_several, has_single, is_same_class, is_several}
use Rattle.list_classes.specs.declared.text_tree.TextTree.{TextTree}
use Rattle.list_classes.specs.declared.text_tree.LabelSide.{LabelSide}
use Rattle.list_classes.specs.declared.text_tree.LabelSide.TheVariants.{Front, End}
use Rattle.list_classes.specs.declared.label_class.LabelClass.{LabelClass}

-- ---- well formed

made_at : (fronts ends : TextTree) (known : List (List ℕ)) (classes : List LabelClass) (place : ℕ) (class : LabelClass)
    → AreMade fronts ends known classes → slice_get classes place ≡ Some class → IsMade fronts ends known class
made_at fronts ends known classes place class made there =
    subst (λ c. IsMade fronts ends known c) (get_or_from_slice_get classes place class class there)
    (made.made place class (slice_get_within classes place class there))

apart_at : (classes : List LabelClass) (place other : ℕ) (class another : LabelClass) → AreApart classes → place < other
    → slice_get classes place ≡ Some class → slice_get classes other ≡ Some another → is_same_class class another ≡ false
apart_at classes place other class another apart less there at =
    subst (λ a. is_same_class class a ≡ false) (get_or_from_slice_get classes other another class at)
    (subst (λ c. is_same_class c (get_or classes other class) ≡ false) (get_or_from_slice_get classes place class class there)
    (apart place other class less (slice_get_within classes other another at)))

once : (classes : List LabelClass) (place other : ℕ) (class another : LabelClass) → AreApart classes
    → slice_get classes place ≡ Some class → slice_get classes other ≡ Some another → is_same_class class another ≡ true
    → is_same_class another class ≡ true → place ≡ other
once classes place other class another apart there at same back =
    elim (cases_lt place other) [
      | inl less ↦ absurd (both_ways _ (apart_at classes place other class another apart less there at) same)
      | inr above ↦ elim (cases_lt other place) [
        | inl less ↦ absurd (both_ways _ (apart_at classes other place another class apart less at there) back)
        | inr below ↦ omega (arith, above, below)
      ]
    ]

one_same : (a b s t : Bool) → a ≡ true → b ≡ true → s ≡ true → ((a && (b && s)) || (not a && (not b && t))) ≡ true
one_same true true true t one two same = refl
one_same true true false t one two same = cc
one_same true false s t one two same = cc
one_same false b s t one two same = cc

several_same : (a b s t : Bool) → a ≡ false → b ≡ false → t ≡ true → ((a && (b && s)) || (not a && (not b && t))) ≡ true
several_same false false s true one two same = refl
several_same false false s false one two same = cc
several_same false true s t one two same = cc
several_same true b s t one two same = cc

nats_same : (a b c d : ℕ) → a ≡ b → c ≡ d → (nat_eq a b && nat_eq c d) ≡ true
nats_same a b c d one two = and_from (nat_eq a b) (nat_eq c d) (grind (arith, nat_tests)) (grind (arith, nat_tests))

pub classes_are : (fronts ends : TextTree) (known : List (List ℕ)) (classes : List LabelClass) (rows : List (Vec (Vec ℕ))) → fronts.side ≡ Front → ends.side ≡ End
    → AreMade fronts ends known classes → AreListed fronts ends classes rows → AreClasses fronts ends classes rows
classes_are fronts ends known classes rows front_side end_side made listed =
    record {
      front_side = front_side;
      end_side = end_side;
      fronts_there = λ place class there. (made_at fronts ends known classes place class made there).front.there;
      ends_there = λ place class there. (made_at fronts ends known classes place class made there).end.there;
      listed = listed;
      longest = record {
        front = λ place class there one. (made_at fronts ends known classes place class made there).front;
        end = λ place class there one. (made_at fronts ends known classes place class made there).end;
      };
      one_once = λ place other class another there at one two same.
          once classes place other class another made.apart there at
          (one_same class.is_one another.is_one _ _ one two ((bytes_eq-Decides class.witness another.witness).1 same))
          (one_same another.is_one class.is_one _ _ two one ((bytes_eq-Decides another.witness class.witness).1 (sym same)));
      several_once = λ place other class another there at one two fronts_same ends_same.
          once classes place other class another made.apart there at
          (several_same class.is_one another.is_one _ _ one two (nats_same class.front another.front class.end another.end fronts_same ends_same))
          (several_same another.is_one class.is_one _ _ two one
          (nats_same another.front class.front another.end class.end (sym fronts_same) (sym ends_same)));
    }

-- ---- witnesses

none_alone : (fronts ends : TextTree) (known : List (List ℕ)) (classes : List LabelClass) (label : List ℕ) → AreMade fronts ends known classes
    → is_among known label ≡ false → has_single classes label ≡ false
none_alone fronts ends known classes label made lost =
    false_from_ne_true _ (λ some.
    let one = Any-from_list_any (is_single label) classes some in
    let both = and_parts one.1.is_one (bytes_eq one.1.witness label) one.4 in
    let here = subst (λ c. IsMade fronts ends known c) one.3 (made.made one.0 one.1 one.2) in
    both_ways _ lost (ap (λ l. is_among known l) (sym ((bytes_eq-Decides one.1.witness label).0 both.1)) ∙ (sym here.is_one ∙ both.0)))

own_when : (fronts ends : TextTree) (known : List (List ℕ)) (classes : List LabelClass) (class : LabelClass) (b : Bool)
    → AreMade fronts ends known classes → class.is_one ≡ is_among known class.witness → class.is_one ≡ b
    → is_own classes class class.witness ≡ true
own_when fronts ends known classes class true made there is =
    ap (λ b. if b then bytes_eq class.witness class.witness else not (has_single classes class.witness)) is
    ∙ (bytes_eq-Decides class.witness class.witness).1 refl
own_when fronts ends known classes class false made there is =
    ap (λ b. if b then bytes_eq class.witness class.witness else not (has_single classes class.witness)) is
    ∙ ap not (none_alone fronts ends known classes class.witness made (sym there ∙ is))

pub witnesses_are : (fronts ends : TextTree) (known : List (List ℕ)) (classes : List LabelClass) → AreMade fronts ends known classes
    → HaveWitnesses fronts ends classes
witnesses_are fronts ends known classes made = λ place class there.
    let is = made_at fronts ends known classes place class made there in
    record {
      class = class;
      there = there;
      front = is.front;
      end = is.end;
      own = own_when fronts ends known classes class class.is_one made is.is_one refl;
    }

not_true : (b : Bool) → not b ≡ true → b ≡ false
not_true true is = cc
not_true false is = refl

some_same : (a b : LabelClass) (o : Option LabelClass) → o ≡ Some a → o ≡ Some b → b ≡ a
some_same a b o one two = let same : Some b ≡ Some a = sym two ∙ one in cc

-- a label that isn't a class by itself isn't known
unknown_alone : (known : List (List ℕ)) (classes : List LabelClass) (label : List ℕ) → AreSingle known classes → has_single classes label ≡ false
    → is_among known label ≡ false
unknown_alone known classes label single none = false_from_ne_true _ (λ there. both_ways _ none (single label there))

least_when : (fronts ends : TextTree) (known : List (List ℕ)) (classes : List LabelClass) (class : LabelClass) (b : Bool) (label : List ℕ)
    → AreSingle known classes → IsMade fronts ends known class → class.is_one ≡ b → IsGiven label
    → IsLongestIn fronts label class.front → IsLongestIn ends label class.end
    → (if b then bytes_eq class.witness label else not (has_single classes label)) ≡ true
    → length class.witness ≤ length label
least_when fronts ends known classes class true label single made is given front_is end_is own =
    let same = ap length ((bytes_eq-Decides class.witness label).0 own) in
    omega (arith, same)
least_when fronts ends known classes class false label single made is given front_is end_is own =
    made.least is label given front_is end_is (unknown_alone known classes label single (not_true _ own))

-- no given label of a class is shorter than its witness
pub classes_least : (fronts ends : TextTree) (known : List (List ℕ)) (classes : List LabelClass) → AreMade fronts ends known classes
    → AreSingle known classes → AreLeast fronts ends classes
classes_least fronts ends known classes made single = λ place class label there given is.
    let same : is.class ≡ class = some_same class is.class (slice_get classes place) there is.there in
    least_when fronts ends known classes class class.is_one label single (made_at fronts ends known classes place class made there) refl given
    (subst (λ (c : LabelClass). IsLongestIn fronts label c.front) same is.front)
    (subst (λ (c : LabelClass). IsLongestIn ends label c.end) same is.end)
    (subst (λ (c : LabelClass). is_own classes c label ≡ true) same is.own)

-- ---- a class for each label

own_one : (classes : List LabelClass) (class : LabelClass) (label : List ℕ) → is_single label class ≡ true → is_own classes class label ≡ true
own_one classes class label is =
    let both = and_parts class.is_one (bytes_eq class.witness label) is in
    ap (λ b. if b then bytes_eq class.witness label else not (has_single classes label)) both.0 ∙ both.1

own_several : (fronts ends : TextTree) (known : List (List ℕ)) (classes : List LabelClass) (class : LabelClass) (label : List ℕ)
    → AreMade fronts ends known classes → class.is_one ≡ false → is_among known label ≡ false → is_own classes class label ≡ true
own_several fronts ends known classes class label made several unknown =
    ap (λ b. if b then bytes_eq class.witness label else not (has_single classes label)) several
    ∙ ap not (none_alone fronts ends known classes label made unknown)

-- of a known label
each_known : (fronts ends : TextTree) (known : List (List ℕ)) (classes : List LabelClass) (label : List ℕ) → AreMade fronts ends known classes
    → has_single classes label ≡ true → (place : ℕ) × IsOf fronts ends classes place label
each_known fronts ends known classes label made there =
    let one = Any-from_list_any (is_single label) classes there in
    let is = subst (λ c. IsMade fronts ends known c) one.3 (made.made one.0 one.1 one.2) in
    let shown : one.1.witness ≡ label = (bytes_eq-Decides one.1.witness label).0 (and_parts one.1.is_one (bytes_eq one.1.witness label) one.4).1 in (
      one.0,
      record {
        class = one.1;
        there = slice_get-get_or classes one.0 one.1 one.2 ∙ ap (λ c. Some c) one.3;
        front = subst (λ l. IsLongestIn fronts l one.1.front) shown is.front;
        end = subst (λ l. IsLongestIn ends l one.1.end) shown is.end;
        own = own_one classes one.1 label one.4;
      },
    )

-- of another label
each_other : (fronts ends : TextTree) (known : List (List ℕ)) (classes : List LabelClass) (label : List ℕ) (front end : ℕ) → AreMade fronts ends known classes
    → IsLongestIn fronts label front → IsLongestIn ends label end → is_among known label ≡ false → has_several classes front end ≡ true
    → (place : ℕ) × IsOf fronts ends classes place label
each_other fronts ends known classes label front end made front_is end_is unknown there =
    let one = Any-from_list_any (is_several front end) classes there in
    let both = and_parts (not one.1.is_one) (nat_eq one.1.front front && nat_eq one.1.end end) one.4 in
    let at = and_parts (nat_eq one.1.front front) (nat_eq one.1.end end) both.1 in (
      one.0,
      record {
        class = one.1;
        there = slice_get-get_or classes one.0 one.1 one.2 ∙ ap (λ c. Some c) one.3;
        front = subst (λ n. IsLongestIn fronts label n) (sym (eqb-true one.1.front front at.0)) front_is;
        end = subst (λ n. IsLongestIn ends label n) (sym (eqb-true one.1.end end at.1)) end_is;
        own = own_several fronts ends known classes one.1 label made (not_true _ both.0) unknown;
      },
    )

each_when : (b : Bool) (fronts ends : TextTree) (known : List (List ℕ)) (classes : List LabelClass) (label : List ℕ) → AreMade fronts ends known classes
    → HaveSeveral fronts ends known classes → AreSingle known classes → IsGiven label → is_among known label ≡ b
    → (place : ℕ) × IsOf fronts ends classes place label
each_when true fronts ends known classes label made several single given is =
    each_known fronts ends known classes label made (single label is)
each_when false fronts ends known classes label made several single given is =
    let front = has_longest fronts.side fronts.texts.items label fronts.formed.each in
    let end = has_longest ends.side ends.texts.items label ends.formed.each in
    each_other fronts ends known classes label front.0 end.0 made front.1 end.1 is (several front.0 end.0 label given front.1 end.1 is)

pub each_of : (fronts ends : TextTree) (known : List (List ℕ)) (classes : List LabelClass) → AreMade fronts ends known classes
    → HaveSeveral fronts ends known classes → AreSingle known classes → HaveEach fronts ends classes
each_of fronts ends known classes made several single = λ label given.
    each_when (is_among known label) fronts ends known classes label made several single given refl

-- ---- labels of one class

-- a text of a label isn't longer than its longest one
among_short : (side : LabelSide) (texts : List (List ℕ)) (label text : List ℕ) (place : ℕ) → IsLongest side texts label place
    → is_among texts text ≡ true → has_at side label text ≡ true → length text ≤ length (text_at texts place)
among_short side texts label text place longest there has =
    let one = Any-from_list_any (λ other. bytes_eq other text) texts there in
    let is : text_at texts one.0 ≡ text
    = get_or_default texts one.0 [] one.1 one.2 ∙ (one.3 ∙ (bytes_eq-Decides one.1 text).0 one.4) in
    subst (λ t. length t ≤ length (text_at texts place)) is
    (longest.longest one.0 one.2 (ap (λ t. has_at side label t) is ∙ has))

nonempty : (label : List ℕ) → (label ≡ [] → ⊥) → 0 < length label
nonempty [] none = absurd (none refl)
nonempty (b ∷ label) none = omega arith

filled_is : (label : List ℕ) → IsGiven label → 0 < length label → is_filled label ≡ true
filled_is label given some = and_from _ _ (given_is label given) (grind (arith, nat_tests))

of_texts : (wishes : SessionRequests) (fronts ends : TextTree) (front_texts end_texts known : List (List ℕ)) (classes : List LabelClass)
    (front end : ℕ) (label : List ℕ) → fronts.side ≡ Front → ends.side ≡ End
    → ((text : List ℕ) → is_among front_texts text ≡ true → is_among fronts.texts.items text ≡ true)
    → ((text : List ℕ) → is_among end_texts text ≡ true → is_among ends.texts.items text ≡ true)
    → HaveAsked (Some wishes) front_texts end_texts known → AreSingle known classes
    → IsGiven label → IsLongestIn fronts label front → IsLongestIn ends label end → has_single classes label ≡ false
    → IsOfTexts wishes.list.now wishes.client wishes.service.now (text_at fronts.texts.items front) (text_at ends.texts.items end) label
of_texts wishes fronts ends front_texts end_texts known classes front end label front_side end_side fronts_in ends_in asked single given at_front at_end none =
    let some = nonempty label (λ is. both_ways _ none (ap (λ l. has_single classes l) is ∙ single [] asked.empty)) in
    record {
      given = given;
      some = some;
      unknown = false_from_ne_true _ (λ is. both_ways _ none (single label (asked.known label (filled_is label given some) is)));
      begins = subst (λ s. has_at s label (text_at fronts.texts.items front) ≡ true) front_side at_front.has;
      closes = subst (λ s. has_at s label (text_at ends.texts.items end) ≡ true) end_side at_end.has;
      longest = λ one there fit.
          let both = and_parts (has_at Front label one.front) (has_at End label one.end) fit in
          record {
            front_short = among_short fronts.side fronts.texts.items label one.front front at_front
                (fronts_in one.front (asked.fronts one there)) (ap (λ s. has_at s label one.front) front_side ∙ both.0);
            end_short = among_short ends.side ends.texts.items label one.end end at_end
                (ends_in one.end (asked.ends one there)) (ap (λ s. has_at s label one.end) end_side ∙ both.1);
          };
    }

alike_same : (wishes : SessionRequests) (label other : List ℕ) → label ≡ other
    → IsAlike wishes.list.now wishes.client wishes.service.now label other
alike_same wishes label other is =
    subst (λ o. IsAlike wishes.list.now wishes.client wishes.service.now label o) is (record { leads = refl; decided = refl })

-- all that holds of one class, by whether it is one label
alike_when : (wishes : SessionRequests) (fronts ends : TextTree) (front_texts end_texts known : List (List ℕ)) (classes : List LabelClass)
    (class : LabelClass) (b : Bool) (label other : List ℕ) → fronts.side ≡ Front → ends.side ≡ End
    → ((text : List ℕ) → is_among front_texts text ≡ true → is_among fronts.texts.items text ≡ true)
    → ((text : List ℕ) → is_among end_texts text ≡ true → is_among ends.texts.items text ≡ true)
    → HaveAsked (Some wishes) front_texts end_texts known → AreSingle known classes → IsGiven label → IsGiven other
    → IsLongestIn fronts label class.front → IsLongestIn ends label class.end → IsLongestIn fronts other class.front → IsLongestIn ends other class.end
    → (if b then bytes_eq class.witness label else not (has_single classes label)) ≡ true
    → (if b then bytes_eq class.witness other else not (has_single classes other)) ≡ true
    → IsAlike wishes.list.now wishes.client wishes.service.now label other
alike_when wishes fronts ends front_texts end_texts known classes class true label other front_side end_side fronts_in ends_in asked single given too a b c d own another =
    alike_same wishes label other
    (sym ((bytes_eq-Decides class.witness label).0 own) ∙ (bytes_eq-Decides class.witness other).0 another)
alike_when wishes fronts ends front_texts end_texts known classes class false label other front_side end_side fronts_in ends_in asked single given too a b c d own another =
    texts_alike wishes.list.now wishes.client wishes.service.now (text_at fronts.texts.items class.front) (text_at ends.texts.items class.end) label other
    (of_texts wishes fronts ends front_texts end_texts known classes class.front class.end label front_side end_side fronts_in ends_in asked single given a b
    (not_true _ own))
    (of_texts wishes fronts ends front_texts end_texts known classes class.front class.end other front_side end_side fronts_in ends_in asked single too c d
    (not_true _ another))

-- requests with labels of one class are routed alike
pub classes_alike : (wishes : Option SessionRequests) (fronts ends : TextTree) (front_texts end_texts known : List (List ℕ)) (classes : List LabelClass)
    → fronts.side ≡ Front → ends.side ≡ End
    → ((text : List ℕ) → is_among front_texts text ≡ true → is_among fronts.texts.items text ≡ true)
    → ((text : List ℕ) → is_among end_texts text ≡ true → is_among ends.texts.items text ≡ true)
    → HaveAsked wishes front_texts end_texts known → AreSingle known classes → AreRoutedAlike wishes fronts ends classes
classes_alike None fronts ends front_texts end_texts known classes front_side end_side fronts_in ends_in asked single = λ place label other given too is other_is. tt
classes_alike (Some wishes) fronts ends front_texts end_texts known classes front_side end_side fronts_in ends_in asked single =
    λ place label other given too is other_is.
    let same : other_is.class ≡ is.class = some_same is.class other_is.class (slice_get classes place) is.there other_is.there in
    alike_when wishes fronts ends front_texts end_texts known classes is.class is.class.is_one label other front_side end_side fronts_in ends_in asked single
    given too is.front is.end
    (subst (λ (c : LabelClass). IsLongestIn fronts other c.front) same other_is.front)
    (subst (λ (c : LabelClass). IsLongestIn ends other c.end) same other_is.end)
    is.own (subst (λ (c : LabelClass). is_own classes c other ≡ true) same other_is.own)

-- ---- ranges

-- labels with the same longest text have the same text that is no longer
keeps_text : (side : LabelSide) (texts : List (List ℕ)) (label other text : List ℕ) (place : ℕ) → IsLongest side texts label place
    → IsLongest side texts other place → is_among texts text ≡ true → has_at side label text ≡ true → has_at side other text ≡ true
keeps_text side texts label other text place one two there has =
    has_then side other (text_at texts place) text two.has
    (has_order side label (text_at texts place) text one.has has (among_short side texts label text place one there has))

in_range : (fronts ends : TextTree) (classes : List LabelClass) (range : AskedLabel) (place : ℕ) (label other : List ℕ) → fronts.side ≡ Front
    → ends.side ≡ End → is_among fronts.texts.items range.front ≡ true → is_among ends.texts.items range.end ≡ true
    → IsOf fronts ends classes place label → IsOf fronts ends classes place other → fits label range ≡ true → fits other range ≡ true
in_range fronts ends classes range place label other front_side end_side front end one two fit =
    let same : two.class ≡ one.class = some_same one.class two.class (slice_get classes place) one.there two.there in
    let both = and_parts (has_at Front label range.front) (has_at End label range.end) fit in
    and_from _ _
    (subst (λ s. has_at s other range.front ≡ true) front_side
    (keeps_text fronts.side fronts.texts.items label other range.front one.class.front one.front
    (subst (λ (c : LabelClass). IsLongestIn fronts other c.front) same two.front) front
    (subst (λ s. has_at s label range.front ≡ true) (sym front_side) both.0)))
    (subst (λ s. has_at s other range.end ≡ true) end_side
    (keeps_text ends.side ends.texts.items label other range.end one.class.end one.end
    (subst (λ (c : LabelClass). IsLongestIn ends other c.end) same two.end) end
    (subst (λ s. has_at s label range.end ≡ true) (sym end_side) both.1)))

-- all or none of the labels of a class match a range whose texts are there
pub range_kept : (fronts ends : TextTree) (classes : List LabelClass) (range : AskedLabel) → fronts.side ≡ Front → ends.side ≡ End
    → is_among fronts.texts.items range.front ≡ true → is_among ends.texts.items range.end ≡ true
    → (place : ℕ) (label other : List ℕ) → IsOf fronts ends classes place label → IsOf fronts ends classes place other
    → fits label range ≡ fits other range
range_kept fronts ends classes range front_side end_side front end place label other one two =
    same_tests _ _
    (in_range fronts ends classes range place label other front_side end_side front end one two)
    (in_range fronts ends classes range place other label front_side end_side front end two one)

-- the same texts have them
pub among_as : (some same texts : List (List ℕ)) → some ≡ same
    → ((text : List ℕ) → is_among some text ≡ true → is_among texts text ≡ true)
    → (text : List ℕ) → is_among same text ≡ true → is_among texts text ≡ true
among_as some same texts is has text there = has text (ap (λ t. is_among t text) is ∙ there)

-- each given text is in a tree that has the text at each place
pub tree_has : (given texts : List (List ℕ)) → ((k : ℕ) → k < length given → is_among texts (get_or given k []) ≡ true)
    → (text : List ℕ) → is_among given text ≡ true → is_among texts text ≡ true
tree_has given texts each text there =
    let one = Any-from_list_any (λ other. bytes_eq other text) given there in
    subst (λ t. is_among texts t ≡ true)
    (get_or_default given one.0 [] one.1 one.2 ∙ (one.3 ∙ (bytes_eq-Decides one.1 text).0 one.4))
    (each one.0 one.2)
