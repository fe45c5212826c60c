-- Hidden rules never decide.
use Rattle.std.proofs.Common.{◌≡◌, ℕ, ◌-◌, true, ◌||◌, List, Option, Some, None, refl, nat_eq, arith}
use Rattle.std.specs.List.{starts_with, ends_with}
use Rattle.std.specs.Str.{bytes_eq}
use Rattle.std.proofs.lemmas.Bool.Decides.{nat_tests}
use Rattle.std.proofs.lemmas.Slice.Eq.{bytes_eq-Decides}
use Rattle.std.proofs.lemmas.Bool.{and_parts, and_from}
use Rattle.list_labels.proofs.TextLemmas.{front_then, end_then}
use Rattle.own_model.specs.Routes.{as_asked}
use Rattle.list_parts.specs.Texts.{has}
use Rattle.list_findings.specs.UnreachableRules.{covers, UnreachableNeverDecide}

-- what is asked of a text by both
covers_on : (earlier later : Option (List ℕ)) (text : List ℕ) → covers earlier later ≡ true → as_asked (bytes_eq text) later ≡ true → as_asked (bytes_eq text) earlier ≡ true
covers_on None later text covered asked = refl
covers_on (Some a) None text covered asked = cc
covers_on (Some a) (Some b) text covered asked = grind (arith, nat_tests, bytes_eq-Decides)

-- so is how a text begins, which is asked as a whole or by its front
begins_on : (asked whole front : Option (List ℕ)) (label : List ℕ)
    → as_asked (λ a. has (λ l. starts_with nat_eq l a) whole || has (λ f. starts_with nat_eq f a) front) asked ≡ true
    → as_asked (bytes_eq label) whole ≡ true → as_asked (starts_with nat_eq label) front ≡ true
    → as_asked (starts_with nat_eq label) asked ≡ true
begins_on None whole front label covered is begins = refl
begins_on (Some a) None None label covered is begins = cc
begins_on (Some a) None (Some f) label covered is begins = front_then label f a begins covered
begins_on (Some a) (Some w) None label covered is begins = grind (arith, nat_tests, bytes_eq-Decides)
begins_on (Some a) (Some w) (Some f) label covered is begins = grind (arith, nat_tests, bytes_eq-Decides, front_then label f a)

-- and how it ends
ends_as : (asked whole end : Option (List ℕ)) (label : List ℕ)
    → as_asked (λ a. has (λ l. ends_with nat_eq l a) whole || has (λ e. ends_with nat_eq e a) end) asked ≡ true
    → as_asked (bytes_eq label) whole ≡ true → as_asked (ends_with nat_eq label) end ≡ true
    → as_asked (ends_with nat_eq label) asked ≡ true
ends_as None whole end label covered is ends = refl
ends_as (Some a) None None label covered is ends = cc
ends_as (Some a) None (Some e) label covered is ends = end_then label e a ends covered
ends_as (Some a) (Some w) None label covered is ends = grind (arith, nat_tests, bytes_eq-Decides)
ends_as (Some a) (Some w) (Some e) label covered is ends = grind (arith, nat_tests, bytes_eq-Decides, end_then label e a)

pub hidden_never_decide : UnreachableNeverDecide
hidden_never_decide earlier later service label hidden asked =
    let hides = and_parts _ _ hidden in
    let labels = and_parts _ _ hides.1 in
    let ends = and_parts _ _ labels.1 in
    let asks = and_parts _ _ asked in
    let whole = and_parts _ _ asks.1 in
    let parts = and_parts _ _ whole.1 in
    and_from _ _ (covers_on earlier.service later.service service hides.0 asks.0)
    (and_from _ _ (covers_on earlier.label later.label label labels.0 whole.0)
    (and_from _ _ (begins_on earlier.label_prefix later.label later.label_prefix label ends.0 whole.0 parts.0)
    (ends_as earlier.label_suffix later.label later.label_suffix label ends.1 whole.0 parts.1)))
