-- What is kept of each label's trail, and what the trails tell of all given labels.
use Rattle.std.proofs.Common.{◌≡◌, ◌≢◌, ℕ, ◌<◌, ◌≤◌, zero, suc, ◌+◌, Bool, true, List, [], ◌∷◌, ◌++◌, length, get_or, refl, sym, subst, ap, ◌∙◌, arith, ◌⊎◌, inl, inr, Option, Some, None}
use Rattle.std.specs.Prelude.{All, Any, nat_le}
use Rattle.std.specs.List.{list_all, list_any}
use Rattle.std.specs.Str.{bytes_eq}
use Rattle.std.proofs.lemmas.Bool.Decides.{nat_tests}
use Rattle.std.proofs.lemmas.Slice.Eq.{bytes_eq-Decides}
use Rattle.std.proofs.lemmas.List.{length-append, get_or_default}
use Rattle.std.proofs.lemmas.List.Elements.{All-contains, All-push}
use Rattle.std.proofs.lemmas.List.Folds.{Any-from_list_any, list_any-from_Any}
use Rattle.std.proofs.Math.ListN.{get_or-append}
use Rattle.std.proofs.lemmas.List.Quantifiers.{Any-push}
use Rattle.std.proofs.lemmas.Bool.{and_from, and_parts, or_left, or_right, or_cases}
use Rattle.own_model.specs.Listed.{Listed}
use Rattle.own_model.specs.SessionArgs.{is_quotable}
use Rattle.list_classes.specs.Described.{AreWhole, RouteAlike}
use Rattle.list_classes.specs.declared.label_class.LabelClass.{LabelClass}
use Rattle.list_classes.specs.declared.label_classes.LabelClasses.{LabelClasses}
use Rattle.list_reach.specs.Deciding.{AreDecisions, HasDecision, IsDecision, KeepsDecision, DecisionAt, for_some_label, is_same, some_byte, some_label}
use Rattle.list_labels.specs.Alike.{IsAlike}
use Rattle.list_labels.specs.Asked.{is_given}
use Rattle.list_labels.specs.DecidingRules.{decision_of}
use Rattle.list_labels.specs.declared.session_requests.SessionRequests.{SessionRequests}
use Rattle.list_labels.specs.GivenLabels.{IsGiven, leads_to}
use Rattle.list_reach.specs.DecisionOrder.{AreSeen}
use Rattle.list_labels.proofs.AskedLemmas.{is_given_then}
use Rattle.list_labels.proofs.RuleLemmas.{routed_by_rules}
use Rattle.list_labels.proofs.TextLemmas.{same_tests}
use Rattle.list_reach.proofs.WitnessLemmas.{class_with}

below_or_at : (n most : ℕ) → n ≤ most → (n < most) ⊎ (n ≡ most)
below_or_at zero zero within = inr refl
below_or_at zero (suc most) within = inl (omega arith)
below_or_at (suc n) zero within = absurd (omega arith)
below_or_at (suc n) (suc most) within = elim (below_or_at n most (omega arith)) [ inl less ↦ inl (omega arith) | inr same ↦ inr (ap suc same) ]

quotable_below : (byte : ℕ) → is_quotable byte ≡ true → byte < 127
quotable_below byte plain = grind (arith, nat_tests)

-- ---- one trail

at_most : (m n : ℕ) → nat_le m n ≡ true → m ≤ n
at_most m n is = grind (arith, nat_tests)

pub keeps_known : (list : Listed) (client : ℕ) (service label rules : List ℕ) (trails : List DecisionAt)
    → All (IsDecision list client service) trails → rules ≡ decision_of list client service label
    → list_any (is_same label rules) trails ≡ true → KeepsDecision list client service label trails trails
keeps_known list client service label rules trails are decides known =
    let any = Any-from_list_any (is_same label rules) trails known in
    let told = All-contains (IsDecision list client service) trails any.1 are (any.0, any.2, any.3) in
    let same = and_parts (bytes_eq any.1.rules rules) _ any.4 in
    let decided : any.1.rules ≡ decision_of list client service label = (bytes_eq-Decides any.1.rules rules).0 same.0 ∙ decides in
    record {
      told = are;
      stays = λ other there. there;
      there = (
        any.0,
        any.1,
        any.2,
        any.3,
        record {
          short = at_most _ _ same.1;
          decides = decided;
          leads = told.leads ∙ routed_by_rules list client service any.1.label label (sym told.decides ∙ decided);
        },
      );
    }

any_more : (P : DecisionAt → Type 0) (trails : List DecisionAt) (trail : DecisionAt) → Any P trails → Any P (trails ++ trail ∷ [])
any_more P trails trail any =
    (any.0, any.1, (omega (arith, any.2, length-append trails (trail ∷ []))), get_or-append trails (trail ∷ []) any.1 any.0 any.2 ∙ any.3, any.4)

pub keeps_new : (list : Listed) (client : ℕ) (service label : List ℕ) (trail : DecisionAt) (trails : List DecisionAt)
    → is_given label ≡ true → All (IsDecision list client service) trails → trail.label ≡ label
    → trail.rules ≡ decision_of list client service label → trail.child ≡ leads_to list client service label
    → KeepsDecision list client service label trails (trails ++ trail ∷ [])
keeps_new list client service label trail trails given are is decides leads =
    let short : length trail.label ≤ length label = omega (arith, ap length is) in
    record {
      told = All-push (IsDecision list client service) trails trail are
          (record { given = is_given_then trail.label (ap is_given is ∙ given); decides = rw is decides; leads = rw is leads });
      stays = λ other there. any_more (HasDecision list client service other) trails trail there;
      there = Any-push (HasDecision list client service label) trails trail (record { short = short; decides = decides; leads = leads });
    }

-- ---- all trails

on_trail : (list : Listed) (client : ℕ) (service label witness : List ℕ) (trail : DecisionAt) → length witness ≤ length label
    → IsAlike list client service witness label → HasDecision list client service witness trail → HasDecision list client service label trail
on_trail list client service label witness trail shorter alike on =
    let short : length trail.label ≤ length witness = on.short in
    record { short = omega arith; decides = on.decides ∙ alike.decided; leads = on.leads ∙ alike.leads }

pub seen_none : (list : Listed) (client : ℕ) (service : List ℕ) (classes : List LabelClass) (trails : List DecisionAt) → trails ≡ []
    → AreSeen list client service classes 0 0 trails
seen_none list client service classes trails is =
    record {
      told = λ k d within. absurd (omega (arith, ap length is));
      shorter = λ k d within less. absurd (omega arith);
      before = λ k d less. absurd (omega arith);
    }

seen_at : (list : Listed) (client : ℕ) (service : List ℕ) (classes : List LabelClass) (size place k : ℕ) (one d : LabelClass) (old new : List DecisionAt)
    → place < length classes → get_or classes place one ≡ one → AreSeen list client service classes size place old
    → KeepsDecision list client service one.witness old new → length (get_or classes k d).witness ≡ size → (k < place) ⊎ (k ≡ place)
    → Any (HasDecision list client service (get_or classes k d).witness) new
seen_at list client service classes size place k one d old new within is seen keeps long (inl below) =
    keeps.stays (get_or classes k d).witness (seen.before k d below long)
seen_at list client service classes size place k one d old new within is seen keeps long (inr same) =
    subst (λ (o : LabelClass). Any (HasDecision list client service o.witness) new)
    (sym (ap (λ n. get_or classes n d) same ∙ (get_or_default classes place d one within ∙ is))) keeps.there

pub seen_more : (list : Listed) (client : ℕ) (service : List ℕ) (classes : List LabelClass) (size place : ℕ) (one : LabelClass) (old new : List DecisionAt)
    → place < length classes → get_or classes place one ≡ one → AreSeen list client service classes size place old
    → KeepsDecision list client service one.witness old new → AreSeen list client service classes size (place + 1) new
seen_more list client service classes size place one old new within is seen keeps =
    record {
      told = keeps.told;
      shorter = λ k d there less. keeps.stays (get_or classes k d).witness (seen.shorter k d there less);
      before = λ k d less long. seen_at list client service classes size place k one d old new within is seen keeps long
          (below_or_at k place (omega arith));
    }

passed_at : (list : Listed) (client : ℕ) (service : List ℕ) (classes : List LabelClass) (size place k : ℕ) (one d : LabelClass) (trails : List DecisionAt)
    → place < length classes → get_or classes place one ≡ one → length one.witness ≢ size → AreSeen list client service classes size place trails
    → length (get_or classes k d).witness ≡ size → (k < place) ⊎ (k ≡ place)
    → Any (HasDecision list client service (get_or classes k d).witness) trails
passed_at list client service classes size place k one d trails within is other seen long (inl below) = seen.before k d below long
passed_at list client service classes size place k one d trails within is other seen long (inr same) =
    absurd (other
    (ap (λ (o : LabelClass). length o.witness) (sym (ap (λ n. get_or classes n d) same ∙ (get_or_default classes place d one within ∙ is))) ∙ long))

-- a label of another length is passed
pub seen_passed : (list : Listed) (client : ℕ) (service : List ℕ) (classes : List LabelClass) (size place : ℕ) (one : LabelClass) (trails : List DecisionAt)
    → place < length classes → get_or classes place one ≡ one → length one.witness ≢ size → AreSeen list client service classes size place trails
    → AreSeen list client service classes size (place + 1) trails
seen_passed list client service classes size place one trails within is other seen =
    record {
      told = seen.told;
      shorter = seen.shorter;
      before = λ k d less long. passed_at list client service classes size place k one d trails within is other seen long
          (below_or_at k place (omega arith));
    }

longer_at : (list : Listed) (client : ℕ) (service : List ℕ) (classes : List LabelClass) (size k : ℕ) (d : LabelClass) (trails : List DecisionAt)
    → AreSeen list client service classes size (length classes) trails → k < length classes
    → (length (get_or classes k d).witness < size) ⊎ (length (get_or classes k d).witness ≡ size)
    → Any (HasDecision list client service (get_or classes k d).witness) trails
longer_at list client service classes size k d trails seen within (inl less) = seen.shorter k d within less
longer_at list client service classes size k d trails seen within (inr long) = seen.before k d within long

-- with all of one length those of one byte more are begun
pub seen_longer : (list : Listed) (client : ℕ) (service : List ℕ) (classes : List LabelClass) (size : ℕ) (trails : List DecisionAt)
    → AreSeen list client service classes size (length classes) trails → AreSeen list client service classes (size + 1) 0 trails
seen_longer list client service classes size trails seen =
    record {
      told = seen.told;
      shorter = λ k d within less. longer_at list client service classes size k d trails seen within
          (below_or_at (length (get_or classes k d).witness) size (omega arith));
      before = λ k d less. absurd (omega arith);
    }

pub trails_of : (wishes : SessionRequests) (classes : LabelClasses) (trails : List DecisionAt) → AreWhole classes → RouteAlike (Some wishes) classes
    → AreSeen wishes.list.now wishes.client wishes.service.now classes.classes.items 65 0 trails
    → AreDecisions wishes.list.now wishes.client wishes.service.now trails
trails_of wishes classes trails whole alike seen =
    record {
      told = seen.told;
      covers = λ label given.
          let one = class_with wishes classes label whole alike given in
          let class = one.0 in
          let short : length class.witness ≤ 64 = one.1.given.short in
          let on = seen.shorter one.1.place class one.1.within (subst (λ (c : LabelClass). length c.witness < 65) (sym one.1.at) (omega arith)) in (
            on.0,
            on.1,
            on.2,
            on.3,
            on_trail wishes.list.now wishes.client wishes.service.now label class.witness on.1 one.1.short one.1.alike
                (subst (λ (c : LabelClass). HasDecision wishes.list.now wishes.client wishes.service.now c.witness on.1) one.1.at on.4),
          );
    }

-- ---- whether something holds of some given label

byte_in : (bound byte : ℕ) (holds : ℕ → Bool) → (byte < bound) → is_quotable byte ≡ true → holds byte ≡ true → some_byte bound holds ≡ true
byte_in zero byte holds within plain is = absurd (omega arith)
byte_in (suc bound) byte holds within plain is =
    elim (below_or_at byte bound (omega arith)) [
      | inl less ↦ or_right _ _ (byte_in bound byte holds less plain is)
      | inr same ↦ or_left _ _ (and_from _ _ (sym (ap is_quotable same) ∙ plain) (sym (ap holds same) ∙ is))
    ]

byte_out : (bound : ℕ) (holds : ℕ → Bool) → some_byte bound holds ≡ true → (byte : ℕ) × (is_quotable byte ≡ true) × (holds byte ≡ true)
byte_out zero holds is = cc
byte_out (suc bound) holds is =
    elim (or_cases _ _ is) [
      | inl here ↦ (let both = and_parts (is_quotable bound) (holds bound) here in (bound, both.0, both.1))
      | inr below ↦ byte_out bound holds below
    ]

label_in : (most : ℕ) (label : List ℕ) (holds : List ℕ → Bool) → length label ≤ most → list_all is_quotable label ≡ true
    → holds label ≡ true → some_label most holds ≡ true
label_in zero [] holds short plain is = is
label_in zero (b ∷ label) holds short plain is = absurd (omega arith)
label_in (suc most) [] holds short plain is = or_left _ _ is
label_in (suc most) (b ∷ label) holds short plain is =
    let both = and_parts (is_quotable b) (list_all is_quotable label) plain in
    or_right _ _ (byte_in 127 b (λ byte. some_label most (λ label. holds (byte ∷ label))) (quotable_below b both.0) both.0
    (label_in most label (λ label. holds (b ∷ label)) (omega arith) both.1 is))

-- a label of at most so many bytes of which it holds
abbrev ServiceReach : ℕ → (List ℕ → Bool) → Type 0
ServiceReach most holds = (label : List ℕ) × (length label ≤ most) × (list_all is_quotable label ≡ true) × (holds label ≡ true)

label_out : (most : ℕ) (holds : List ℕ → Bool) → some_label most holds ≡ true → ServiceReach most holds
label_out zero holds is = ([], omega arith, refl, is)
label_out (suc most) holds is =
    elim (or_cases _ _ is) [
      | inl here ↦ ([], omega arith, refl, here)
      | inr more ↦ (let first = byte_out 127 (λ byte. some_label most (λ label. holds (byte ∷ label))) more in
          let rest = label_out most (λ label. holds (first.0 ∷ label)) first.2 in
          let short : length rest.0 ≤ most = rest.1 in
          (first.0 ∷ rest.0, omega arith, and_from _ _ first.1 rest.2, rest.3))
    ]

pub some_given : (holds : List ℕ → Bool) (label : List ℕ) → IsGiven label → holds label ≡ true → for_some_label holds ≡ true
unfolding for_some_label
some_given holds label given is = label_in 64 label holds given.short given.plain is

pub given_of_some : (holds : List ℕ → Bool) → for_some_label holds ≡ true → (label : List ℕ) × IsGiven label × (holds label ≡ true)
unfolding for_some_label
given_of_some holds is =
    let found = label_out 64 holds is in (found.0, record { short = found.1; plain = found.2 }, found.3)

-- what is tested of the rules that decide, and of where they lead, holds of some trail exactly where it does of some given label
pub trails_tell : (list : Listed) (client : ℕ) (service : List ℕ) (trails : List DecisionAt) (holds : List ℕ → Option ℕ → Bool)
    → AreDecisions list client service trails
    → list_any (λ (trail : DecisionAt). holds trail.rules trail.child) trails
    ≡ for_some_label (λ label. holds (decision_of list client service label) (leads_to list client service label))
trails_tell list client service trails holds are =
    same_tests _ _
    (λ is. let any = Any-from_list_any (λ (trail : DecisionAt). holds trail.rules trail.child) trails is in
    let told = All-contains (IsDecision list client service) trails any.1 are.told (any.0, any.2, any.3) in
    some_given (λ label. holds (decision_of list client service label) (leads_to list client service label)) any.1.label told.given
    (sym (ap (λ r. holds r (leads_to list client service any.1.label)) told.decides)
    ∙ (sym (ap (λ c. holds any.1.rules c) told.leads) ∙ any.4)))
    (λ is. let found = given_of_some (λ label. holds (decision_of list client service label) (leads_to list client service label)) is in
    let any = are.covers found.0 found.1 in
    list_any-from_Any (λ (trail : DecisionAt). holds trail.rules trail.child) trails (
      any.0,
      any.1,
      any.2,
      any.3,
      ap (λ r. holds r any.1.child) any.4.decides
          ∙ (ap (λ c. holds (decision_of list client service found.0) c) any.4.leads ∙ found.2),
    ))
