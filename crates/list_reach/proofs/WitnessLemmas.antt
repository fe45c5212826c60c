-- The class of a label of a client's requests, and what its witness shows of the label.
use Rattle.std.proofs.Common.{◌≡◌, ◌<◌, ◌≤◌, ◌∙◌, ℕ, true, false, List, get_or, length, sym, subst, ap, Some, None, arith}
use Rattle.std.specs.Prelude.{All}
use Rattle.std.specs.List.{slice_get}
use Rattle.std.proofs.lemmas.Bool.{and_from, and_parts, both_ways}
use Rattle.std.proofs.lemmas.Option.{get_or_from_slice_get, slice_get_within}
use Rattle.list_labels.specs.Alike.{IsAlike}
use Rattle.list_labels.specs.GivenLabels.{IsGiven, leads_to}
use Rattle.list_labels.specs.LabelRanges.{AskedLabel, IsInRange, fits}
use Rattle.list_labels.specs.declared.session_requests.SessionRequests.{SessionRequests}
use Rattle.list_labels.proofs.AskedLemmas.{is_given_then}
use Rattle.list_classes.specs.Described.{AreWhole, IsIn, KeepRange, RouteAlike}
use Rattle.list_classes.specs.declared.label_class.LabelClass.{LabelClass}
use Rattle.list_classes.specs.declared.label_classes.LabelClasses.{LabelClasses}
use Rattle.list_reach.specs.RangeReach.{IsShortestInRange, NoneRoutedInRange, is_routed_in, witness_length}
use Rattle.list_reach.specs.RoutedLabels.{is_to, routed_on}
use Rattle.list_reach.specs.Shortest.{IsLeast}
use Rattle.list_reach.proofs.ComparisonLemmas.{server_is, server_there}

-- a class has a label, and its witness is no longer and is routed as the label is
pub record IsClassOf (wishes : SessionRequests) (classes : LabelClasses) (label : List ℕ) (class : LabelClass) : Type 0 where
  pub place : ℕ
  pub within : place < length classes.classes.items
  pub at : get_or classes.classes.items place class ≡ class
  pub is : IsIn classes place label
  pub own : IsIn classes place class.witness
  pub given : IsGiven class.witness
  pub alike : IsAlike wishes.list.now wishes.client wishes.service.now class.witness label
  pub short : length class.witness ≤ length label

pub class_with : (wishes : SessionRequests) (classes : LabelClasses) (label : List ℕ) → AreWhole classes → RouteAlike (Some wishes) classes
    → IsGiven label → (class : LabelClass) × IsClassOf wishes classes label class
class_with wishes classes label whole alike given =
    let one = whole.each label given in
    let class = one.1.class in
    let own = whole.own one.0 class one.1.there in
    let known = is_given_then class.witness class.given in (
      class,
      record {
        place = one.0;
        within = slice_get_within classes.classes.items one.0 class one.1.there;
        at = get_or_from_slice_get classes.classes.items one.0 class class one.1.there;
        is = one.1;
        own = own;
        given = known;
        alike = alike one.0 class.witness label known given own one.1;
        short = whole.least one.0 class label one.1.there given one.1;
      },
    )

module _ (range : AskedLabel) (wishes : SessionRequests) (server : ℕ) (classes : LabelClasses) where
  -- a label of the range that is routed to the server is of a class whose witness is, too
  routed_class : (label : List ℕ) → AreWhole classes → RouteAlike (Some wishes) classes → KeepRange range classes → IsInRange range label
      → leads_to wishes.list.now wishes.client wishes.service.now label ≡ Some server
      → (class : LabelClass) × IsClassOf wishes classes label class
      × (is_routed_in range (routed_on (Some wishes)) server class ≡ true)
  routed_class label whole alike keeps asked leads =
      let one = class_with wishes classes label whole alike asked.given in
      let class = one.0 in (
        class,
        one.1,
        and_from (fits class.witness range) _ (keeps one.1.place class.witness label one.1.own one.1.is ∙ asked.inside)
            (server_there (leads_to wishes.list.now wishes.client wishes.service.now class.witness) server (one.1.alike.leads ∙ leads)),
      )

  pub range_never : AreWhole classes → RouteAlike (Some wishes) classes → KeepRange range classes
      → All (λ class. is_routed_in range (routed_on (Some wishes)) server class ≡ false) classes.classes.items
      → NoneRoutedInRange range wishes.list.now wishes.client wishes.service.now server
  range_never whole alike keeps none label asked leads =
      let one = routed_class label whole alike keeps asked leads in
      both_ways _ (sym (ap (is_routed_in range (routed_on (Some wishes)) server) one.1.at) ∙ none one.1.place one.0 one.1.within) one.2

  pub range_shortest : (best : LabelClass) → AreWhole classes → RouteAlike (Some wishes) classes → KeepRange range classes
      → IsLeast witness_length (is_routed_in range (routed_on (Some wishes)) server) classes.classes.items best
      → IsShortestInRange range wishes.list.now wishes.client wishes.service.now server best.witness
  range_shortest best whole alike keeps least =
      let passes = and_parts (fits best.witness range) _ least.passes in
      record {
        asked = record { given = is_given_then best.witness best.given; inside = passes.0 };
        leads = server_is (leads_to wishes.list.now wishes.client wishes.service.now best.witness) server passes.1;
        least = λ other asked leads.
            let one = routed_class other whole alike keeps asked leads in
            let most : length best.witness ≤ length one.0.witness =
            subst (λ (c : LabelClass). length best.witness ≤ length c.witness) one.1.at
            (least.least one.1.place one.0 one.1.within (ap (is_routed_in range (routed_on (Some wishes)) server) one.1.at ∙ one.2)) in
            let short = one.1.short in
            omega (arith, most, short);
      }
