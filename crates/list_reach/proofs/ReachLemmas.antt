-- The reach of a server of one list, by a comparison with no list.
use Rattle.std.proofs.Common.{◌≡◌, ◌∙◌, ℕ, Bool, true, false, ◌&&◌, List, [], ◌∷◌, refl, sym, ap, Some, None, arith}
use Rattle.std.specs.Prelude.{Contains}
use Rattle.std.specs.List.{list_all}
use Rattle.std.proofs.lemmas.Bool.{both_ways}
use Rattle.std.proofs.lemmas.List.Elements.{Contains-append_right}
use Rattle.std.proofs.lemmas.List.Sums.{AllPass-from_list_all}
use Rattle.own_model.specs.Listed.{Listed}
use Rattle.list_labels.specs.GivenLabels.{IsGiven, leads_to}
use Rattle.list_reach.specs.Comparisons.{Compares, IsShortestBy}
use Rattle.list_reach.specs.Reach.{AllRouted, IsShortest, NoneRouted, SomeNotRouted}
use Rattle.list_reach.specs.RoutedLabels.{RoutedLabel, is_gained, is_moved, routed_on, routes_of}
use Rattle.list_reach.specs.declared.comparison.LabelMove.{LabelMove}
use Rattle.list_reach.specs.declared.comparison.RouteComparison.{RouteComparison}
use Rattle.list_reach.proofs.ComparisonLemmas.{class_of, given_at, server_from, server_to}

pub reach_never : (list : Listed) (client : ℕ) (service : List ℕ) (server : ℕ)
    → IsShortestBy (routed_on None) (leads_to list client service) (is_gained None (Some server)) None → NoneRouted list client service server
reach_never list client service server none label given leads =
    both_ways _ (none label given) (server_to (leads_to list client service label) server leads)

pub reach_by : (list : Listed) (client : ℕ) (service : List ℕ) (server : ℕ) (label : List ℕ)
    → IsShortestBy (routed_on None) (leads_to list client service) (is_gained None (Some server)) (Some label)
    → IsShortest list client service server label
reach_by list client service server label is =
    record {
      given = is.given;
      leads = server_from (leads_to list client service label) server is.passes;
      least = λ other given leads. is.least other given (server_to (leads_to list client service other) server leads);
    }

pub reach_always : (list : Listed) (client : ℕ) (service : List ℕ) (server : ℕ) (comparison : RouteComparison)
    → Compares (routed_on None) (leads_to list client service) comparison
    → list_all (is_moved (record { is_gain = true; was = None; now = Some server })) comparison.routed.items ≡ true
    → AllRouted list client service server
reach_always list client service server comparison compares all label given =
    let moves : LabelMove = record { is_gain = true; was = None; now = Some server } in
    let class = class_of moves (routed_on None) (leads_to list client service) comparison label compares given in
    let d = routes_of (routed_on None) (leads_to list client service) label in
    server_from (leads_to list client service label) server
    (sym (class.moved d) ∙ AllPass-from_list_all (is_moved moves) comparison.routed.items all class.place d class.within)

-- some one fails a test
not_all_of : (p : RoutedLabel → Bool) (x : RoutedLabel) (xs : List RoutedLabel) (b : Bool) → p x ≡ b → (b && list_all p xs) ≡ false
    → (list_all p xs ≡ false → (y : RoutedLabel) × Contains xs y × (p y ≡ false))
    → (y : RoutedLabel) × Contains (x ∷ xs) y × (p y ≡ false)
not_all_of p x xs false is none rest = (x, (0, omega arith, refl), is)
not_all_of p x xs true is none rest = let one = rest none in (one.0, Contains-append_right (x ∷ []) xs one.0 one.1, one.2)

not_all : (p : RoutedLabel → Bool) (xs : List RoutedLabel) → list_all p xs ≡ false → (x : RoutedLabel) × Contains xs x × (p x ≡ false)
not_all p [] none = cc
not_all p (x ∷ xs) none = not_all_of p x xs (p x) refl none (λ rest. not_all p xs rest)

pub reach_some : (list : Listed) (client : ℕ) (service : List ℕ) (server : ℕ) (comparison : RouteComparison)
    → Compares (routed_on None) (leads_to list client service) comparison
    → list_all (is_moved (record { is_gain = true; was = None; now = Some server })) comparison.routed.items ≡ false
    → SomeNotRouted list client service server
reach_some list client service server comparison compares none =
    let moves : LabelMove = record { is_gain = true; was = None; now = Some server } in
    let one = not_all (is_moved moves) comparison.routed.items none in
    let at = given_at (routed_on None) (leads_to list client service) comparison one.0 compares one.1 in (
      one.0.label,
      at.0,
      λ leads. both_ways _ one.2 (ap (is_moved moves) at.1 ∙ server_to (leads_to list client service one.0.label) server leads),
    )

-- if all labels are routed to a server, the empty one is a shortest
pub empty_is_shortest : (list : Listed) (client : ℕ) (service : List ℕ) (server : ℕ) → AllRouted list client service server
    → IsShortest list client service server []
empty_is_shortest list client service server all =
    let given : IsGiven [] = record { short = omega arith; plain = refl } in
    record { given = given; leads = all [] given; least = λ other is leads. omega arith }
