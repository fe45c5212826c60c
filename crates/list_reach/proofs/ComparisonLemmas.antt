-- Labels that are compared on two lists by their classes, and the shortest of those that pass a test.
use Rattle.std.proofs.Common.{◌≡◌, ◌<◌, ◌≤◌, ◌∙◌, ℕ, Bool, true, false, ◌&&◌, ◌==◌, List, [], ◌∷◌, ◌++◌, get_or, length, map, nat_lt, refl, sym, ap, subst, Option, Some, None, arith}
use Rattle.std.specs.Prelude.{All, Contains, Err, IfOk, Ok, Result, slice_index_or}
use Rattle.std.specs.List.{slice_get}
use Rattle.std.specs.Option.{option_map}
use Rattle.std.proofs.lemmas.Bool.{and_from, and_parts, eq-eqb, eqb-true}
use Rattle.std.proofs.lemmas.Bool.Decides.{nat_tests}
use Rattle.std.proofs.lemmas.List.{get_or-map, length-map}
use Rattle.std.proofs.lemmas.List.Elements.{All-push, All-weaker, Contains-append_left, Contains-push}
use Rattle.std.proofs.lemmas.Option.{get_or_from_slice_get, slice_get_within, slice_get-get_or}
use Rattle.own_model.specs.Listed.{Listed}
use Rattle.list_labels.specs.GivenLabels.{IsGiven, leads_to}
use Rattle.list_labels.specs.LabelSets.{IsSetOf}
use Rattle.list_labels.specs.declared.pattern.LabelSet.{LabelSet}
use Rattle.list_classes.specs.Described.{AreWhole, IsIn, IsUnionOf, RouteAlike}
use Rattle.list_classes.specs.declared.label_class.LabelClass.{LabelClass}
use Rattle.list_classes.specs.declared.label_classes.LabelClasses.{LabelClasses}
use Rattle.list_labels.specs.declared.session_requests.SessionRequests.{SessionRequests}
use Rattle.list_labels.proofs.AskedLemmas.{is_given_then}
use Rattle.list_reach.specs.Comparisons.{Compares, IsSetBy, IsShortestBy, RoutesAlike}
use Rattle.list_reach.specs.RoutedLabels.{IsWitness, RoutedLabel, class_routes, is_gained, is_moved, is_moved_by, is_to, routed_length, routed_on, routes_of}
use Rattle.list_reach.specs.Shortest.{IsShortest}
use Rattle.list_reach.specs.declared.comparison.LabelMove.{LabelMove}
use Rattle.list_reach.specs.declared.comparison.RouteComparison.{RouteComparison}
use Rattle.list_reach.specs.declared.comparison.WitnessedSet.{WitnessedSet}

-- ---- classes of labels

alike_on : (wishes : Option SessionRequests) (classes : LabelClasses) → RouteAlike wishes classes → RoutesAlike (routed_on wishes) classes
alike_on None classes alike = λ place label other given too is other_is. refl
alike_on (Some wishes) classes alike = λ place label other given too is other_is. (alike place label other given too is other_is).leads

pub compared_by : (before after : Option SessionRequests) (comparison : RouteComparison) → AreWhole comparison.classes
    → RouteAlike before comparison.classes → RouteAlike after comparison.classes
    → comparison.routed.items ≡ map (class_routes (routed_on before) (routed_on after)) comparison.classes.classes.items
    → Compares (routed_on before) (routed_on after) comparison
compared_by before after comparison whole one other routed =
    record {
      whole = whole;
      before_alike = alike_on before comparison.classes one;
      after_alike = alike_on after comparison.classes other;
      routed = routed;
    }

-- ---- the same routes in other words

alike_by : (routes other : List ℕ → Option ℕ) (classes : LabelClasses) → ((label : List ℕ) → routes label ≡ other label)
    → RoutesAlike routes classes → RoutesAlike other classes
alike_by routes other classes same alike place label another given too is another_is =
    sym (same label) ∙ (alike place label another given too is another_is ∙ same another)

class_alike : (before after old new : List ℕ → Option ℕ) (class : LabelClass) → ((label : List ℕ) → before label ≡ old label)
    → ((label : List ℕ) → after label ≡ new label) → class_routes before after class ≡ class_routes old new class
class_alike before after old new class olds news =
    ap (λ b. record { label = class.witness; before = b; after = after class.witness }) (olds class.witness)
    ∙ ap (λ a. record { label = class.witness; before = old class.witness; after = a }) (news class.witness)

classes_alike : (before after old new : List ℕ → Option ℕ) (classes : List LabelClass) → ((label : List ℕ) → before label ≡ old label)
    → ((label : List ℕ) → after label ≡ new label) → map (class_routes before after) classes ≡ map (class_routes old new) classes
classes_alike before after old new [] olds news = refl
classes_alike before after old new (class ∷ classes) olds news =
    ap (λ c. c ∷ map (class_routes before after) classes) (class_alike before after old new class olds news)
    ∙ ap (λ cs. class_routes old new class ∷ cs) (classes_alike before after old new classes olds news)

comparison_alike : (before after old new : List ℕ → Option ℕ) (compared : RouteComparison) → ((label : List ℕ) → before label ≡ old label)
    → ((label : List ℕ) → after label ≡ new label) → Compares before after compared → Compares old new compared
comparison_alike before after old new compared olds news is =
    record {
      whole = is.whole;
      before_alike = alike_by before old compared.classes olds is.before_alike;
      after_alike = alike_by after new compared.classes news is.after_alike;
      routed = is.routed ∙ classes_alike before after old new compared.classes.classes.items olds news;
    }

-- a comparison by the same routes
pub compared_alike : {E : Type 0} (before after old new : List ℕ → Option ℕ) (result : Result RouteComparison E)
    → ((label : List ℕ) → before label ≡ old label) → ((label : List ℕ) → after label ≡ new label)
    → IfOk result (Compares before after) → IfOk result (Compares old new)
compared_alike before after old new (Ok compared) olds news is = comparison_alike before after old new compared olds news is
compared_alike before after old new (Err error) olds news is = is

-- ---- the class of a label

-- a test by where a label is routed
moved_alike : (gains : Bool) (was now : Option ℕ) (before after : List ℕ → Option ℕ) (label other : List ℕ) → before label ≡ before other
    → after label ≡ after other → is_moved_by gains was now (routes_of before after label) ≡ is_moved_by gains was now (routes_of before after other)
moved_alike true was now before after label other b a =
    ap (λ c. is_moved_by true was now (record { label = label; before = c; after = after label })) b
    ∙ ap (λ c. is_moved_by true was now (record { label = label; before = before other; after = c })) a
moved_alike false was now before after label other b a =
    ap (λ c. is_moved_by false was now (record { label = label; before = c; after = after label })) b
    ∙ ap (λ c. is_moved_by false was now (record { label = label; before = before other; after = c })) a

-- the class of a label
pub record HasClass (moves : LabelMove) (before after : List ℕ → Option ℕ) (comparison : RouteComparison) (label : List ℕ) : Type 0 where
  pub place : ℕ
  pub is : IsIn comparison.classes place label
  pub within : place < length comparison.routed.items
  pub moved : (d : RoutedLabel) → is_moved moves (get_or comparison.routed.items place d) ≡ is_moved moves (routes_of before after label)
  pub short : (d : RoutedLabel) → length (get_or comparison.routed.items place d).label ≤ length label

routed_at : (before after : List ℕ → Option ℕ) (classes : List LabelClass) (routed : List RoutedLabel) (place : ℕ) (class : LabelClass)
    → routed ≡ map (class_routes before after) classes → slice_get classes place ≡ Some class
    → (place < length routed) × ((d : RoutedLabel) → get_or routed place d ≡ routes_of before after class.witness)
routed_at before after classes routed place class is there =
    let within = slice_get_within classes place class there in (
      subst (λ n. place < n) (sym (ap length is ∙ length-map classes (class_routes before after))) within,
      λ d. ap (λ r. get_or r place d) is
          ∙ (get_or-map (class_routes before after) classes place class d within ∙ ap (class_routes before after) (get_or_from_slice_get classes place class class there)),
    )

pub class_of : (moves : LabelMove) (before after : List ℕ → Option ℕ) (comparison : RouteComparison) (label : List ℕ)
    → Compares before after comparison → IsGiven label → HasClass moves before after comparison label
class_of moves before after comparison label compares given =
    let one = compares.whole.each label given in
    let class = one.1.class in
    let own = compares.whole.own one.0 class one.1.there in
    let known = is_given_then class.witness class.given in
    let at = routed_at before after comparison.classes.classes.items comparison.routed.items one.0 class compares.routed one.1.there in
    let least = compares.whole.least one.0 class label one.1.there given one.1 in
    record {
      place = one.0;
      is = one.1;
      within = at.0;
      moved = λ d.
          ap (is_moved moves) (at.1 d)
          ∙ moved_alike moves.is_gain moves.was moves.now before after class.witness label
          (compares.before_alike one.0 class.witness label known given own one.1) (compares.after_alike one.0 class.witness label known given own one.1);
      short = λ d. subst (λ (r : RoutedLabel). length r.label ≤ length label) (sym (at.1 d)) least;
    }

-- ---- sets of labels

first_class : (classes : List LabelClass) (place : ℕ) → place < length classes → (class : LabelClass) × (slice_get classes place ≡ Some class)
first_class [] place within = absurd (omega (arith, within))
first_class (class ∷ classes) place within = (get_or (class ∷ classes) place class, slice_get-get_or (class ∷ classes) place class within)

-- each compared label can be given, and is routed as both lists route it
pub given_at : (before after : List ℕ → Option ℕ) (comparison : RouteComparison) (one : RoutedLabel) → Compares before after comparison
    → Contains comparison.routed.items one → IsGiven one.label × (one ≡ routes_of before after one.label)
given_at before after comparison one compares there =
    let classes = comparison.classes.classes.items in
    let within : there.0 < length classes =
    subst (λ n. there.0 < n) (ap length compares.routed ∙ length-map classes (class_routes before after)) there.1 in
    let class = first_class classes there.0 within in
    let at = routed_at before after classes comparison.routed.items there.0 class.0 compares.routed class.1 in
    let same : one ≡ routes_of before after class.0.witness = sym there.2 ∙ at.1 one in (
      subst (λ (r : RoutedLabel). IsGiven r.label) (sym same) (is_given_then class.0.witness class.0.given),
      same ∙ ap (λ (r : RoutedLabel). routes_of before after r.label) (sym same),
    )

shortest_by : (moves : LabelMove) (before after : List ℕ → Option ℕ) (comparison : RouteComparison) (best : Option RoutedLabel)
    → Compares before after comparison → IsShortest routed_length (is_moved moves) comparison.routed.items best
    → IsShortestBy before after (is_moved moves) (option_map (λ (one : RoutedLabel). one.label) best)
shortest_by moves before after comparison None compares none = λ label given.
    let class = class_of moves before after comparison label compares given in
    sym (class.moved (routes_of before after label)) ∙ none class.place (routes_of before after label) class.within
shortest_by moves before after comparison (Some best) compares least =
    let one = given_at before after comparison best compares least.there in
    record {
      given = one.0;
      passes = ap (is_moved moves) (sym one.1) ∙ least.passes;
      least = λ other given passes.
          let class = class_of moves before after comparison other compares given in
          let d = routes_of before after other in
          let most = least.least class.place d class.within (class.moved d ∙ passes) in
          let short = class.short d in
          omega (arith, most, short);
    }

-- the classes whose labels are moved
inside_is : (moves : LabelMove) (before after : List ℕ → Option ℕ) (comparison : RouteComparison) (inside : List Bool) (label : List ℕ)
    → inside ≡ map (is_moved moves) comparison.routed.items → (class : HasClass moves before after comparison label)
    → slice_index_or inside class.place false ≡ is_moved moves (routes_of before after label)
inside_is moves before after comparison inside label is class =
    ap (λ i. get_or i class.place false) is
    ∙ (get_or-map (is_moved moves) comparison.routed.items class.place (routes_of before after label) false class.within
    ∙ class.moved (routes_of before after label))

set_is : (moves : LabelMove) (before after : List ℕ → Option ℕ) (comparison : RouteComparison) (inside : List Bool) (found : WitnessedSet)
    → inside ≡ map (is_moved moves) comparison.routed.items → Compares before after comparison
    → (AreWhole comparison.classes → IsUnionOf comparison.classes inside found.labels)
    → IsWitness (is_moved moves) comparison.routed.items found.witness → IsSetBy before after (is_moved moves) found
set_is moves before after comparison inside found is compares union shown =
    record {
      labels = λ label given.
          let class = class_of moves before after comparison label compares given in
          union compares.whole class.place label class.is ∙ inside_is moves before after comparison inside label is class;
      witness = subst (λ w. IsShortestBy before after (is_moved moves) w) (sym shown.2)
          (shortest_by moves before after comparison shown.0 compares shown.1);
    }

pub set_found : (moves : LabelMove) (comparison : RouteComparison) (inside : List Bool) (witness : Option (List ℕ)) (labels : LabelSet)
    → inside ≡ map (is_moved moves) comparison.routed.items
    → (AreWhole comparison.classes → IsUnionOf comparison.classes inside labels)
    → IsWitness (is_moved moves) comparison.routed.items witness
    → (before after : List ℕ → Option ℕ) → Compares before after comparison
    → IsSetBy before after (is_moved moves) (record { labels = labels; witness = witness })
set_found moves comparison inside witness labels is union shown before after compares =
    set_is moves before after comparison inside (record { labels = labels; witness = witness }) is compares union shown

-- a server to which a label is routed
pub server_is : (child : Option ℕ) (server : ℕ) → is_to child (Some server) ≡ true → child ≡ Some server
server_is None server is = cc
server_is (Some child) server is = ap (λ n. Some n) (eqb-true child server is)

pub server_there : (child : Option ℕ) (server : ℕ) → child ≡ Some server → is_to child (Some server) ≡ true
server_there None server is = cc
server_there (Some child) server is = eq-eqb child server (cc)

-- the labels that a server of one list has, against no list
pub server_from : (child : Option ℕ) (server : ℕ) → (is_to child (Some server) && true) ≡ true → child ≡ Some server
server_from child server is = server_is child server (and_parts (is_to child (Some server)) true is).0

pub server_to : (child : Option ℕ) (server : ℕ) → child ≡ Some server → (is_to child (Some server) && true) ≡ true
server_to child server is = and_from (is_to child (Some server)) true (server_there child server is) refl

pub set_of_server : (list : Listed) (client : ℕ) (service : List ℕ) (server : ℕ) (found : WitnessedSet)
    → IsSetBy (routed_on None) (leads_to list client service) (is_gained None (Some server)) found → IsSetOf list client service server found.labels
set_of_server list client service server found is label given =
    let has = is.labels label given in (
      λ there. server_from (leads_to list client service label) server (sym has ∙ there),
      λ leads. has ∙ server_to (leads_to list client service label) server leads,
    )
