-- The rows of pairs, one pair after another.
use Rattle.std.proofs.Common.{◌≡◌, ◌∙◌, ◌<◌, ◌+◌, ℕ, Bool, true, false, List, [], ◌∷◌, ◌++◌, length, get_or, take, refl, sym, subst, ap, Option, Some, None}
use Rattle.std.specs.Option.{option_to_list}
use Rattle.std.proofs.lemmas.List.{append-nil, append_assoc, take_more}
use Rattle.own_model.specs.Listed.{Listed}
use Rattle.list_reach.specs.Comparisons.{Compares, IsSetBy}
use Rattle.list_reach.specs.RoutedLabels.{RoutedLabel}
use Rattle.list_reach.specs.declared.comparison.WitnessedSet.{WitnessedSet}
use Rattle.list_diff.specs.Changes.{place_of}
use Rattle.list_diff.specs.Reaches.{HasRows, IsCompared, IsMovedSet, IsRow, IsRowIf, Shows, moves_some}
use Rattle.list_diff.specs.Routes.{Pair, routes}
use Rattle.list_diff.specs.declared.moved_labels.MovedLabels.{MovedLabels}
use Rattle.list_diff.specs.declared.reach_changes.ReachChange.{ReachChange}
use Rattle.list_diff.specs.declared.reach_changes.ReachSide.{ReachSide}
use Rattle.list_diff.specs.declared.reach_changes.ServiceComparison.{ServiceComparison}

-- the row of one pair more
rows_more : (before after : ReachSide) (pairs : List Pair) (pair : Pair) (row : Option ReachChange) (old : List ReachChange)
    → HasRows before after pairs old → Shows before after pair row → HasRows before after (pairs ++ pair ∷ []) (old ++ option_to_list row)
rows_more before after [] pair row old rows shows =
    (row, [], ap (λ o. o ++ option_to_list row) rows ∙ sym (append-nil (option_to_list row)), shows, refl)
rows_more before after (one ∷ pairs) pair row old rows shows = (
  rows.0,
  rows.1 ++ option_to_list row,
  ap (λ o. o ++ option_to_list row) rows.2 ∙ append_assoc (option_to_list rows.0) rows.1 (option_to_list row),
  rows.3,
  rows_more before after pairs pair row rows.1 rows.4 shows,
)

-- the row of a pair, after the rows of the pairs before it
pub next_rows : (before after : ReachSide) (pairs : List Pair) (place : ℕ) (pair : Pair) (row : Option ReachChange)
    (old new : List ReachChange) → HasRows before after (take place pairs) old → place < length pairs → pair ≡ get_or pairs place pair
    → new ≡ old ++ option_to_list row → Shows before after pair row → HasRows before after (take (place + 1) pairs) new
next_rows before after pairs place pair row old new rows within at is shows =
    subst (λ n. HasRows before after (take (place + 1) pairs) n) (sym is)
    (subst (λ p. HasRows before after p (old ++ option_to_list row))
    (sym (take_more pairs place pair within ∙ ap (λ p. take place pairs ++ p ∷ []) (sym at)))
    (rows_more before after (take place pairs) pair row old rows shows))

-- requests that are compared are those of a pair
pub compared_of : (before after : Listed) (pair : Pair) (one : ServiceComparison) → IsCompared before after one
    → one.client.now.path ≡ pair.client.path → one.service.now ≡ pair.service
    → Compares (routes before pair.client.path pair.service) (routes after pair.client.path pair.service) one.compared
compared_of before after pair one is client service =
    subst (λ p. Compares (routes before p pair.service) (routes after p pair.service) one.compared) client
    (subst (λ s. Compares (routes before one.client.now.path s) (routes after one.client.now.path s) one.compared) service is)

-- a label is gained or lost, and a pair has this row
pub row_shown : (before after : ReachSide) (pair : Pair) (gained lost : MovedLabels) (change : ReachChange) → moves_some gained lost ≡ true
    → IsRow before after pair gained lost change → IsRowIf (moves_some gained lost) before after pair gained lost (Some change)
row_shown before after pair gained lost change some is =
    subst (λ b. IsRowIf b before after pair gained lost (Some change)) (sym some) (change, refl, is)

-- none is
pub row_hidden : (before after : ReachSide) (pair : Pair) (gained lost : MovedLabels) → moves_some gained lost ≡ false
    → IsRowIf (moves_some gained lost) before after pair gained lost None
row_hidden before after pair gained lost none = subst (λ b. IsRowIf b before after pair gained lost None) (sym none) refl

-- labels that are moved, by the numbers of a server in other words
pub moved_at : (before after : ReachSide) (test : Option ℕ → Option ℕ → RoutedLabel → Bool) (pair : Pair) (set : WitnessedSet) (moved : MovedLabels)
    (was now : Option ℕ) → moved.set ≡ set → was ≡ place_of before.list.now pair.server.path → now ≡ place_of after.list.now pair.server.path
    → IsSetBy (routes before.list.now pair.client.path pair.service) (routes after.list.now pair.client.path pair.service) (test was now) set
    → IsMovedSet before after test pair moved
moved_at before after test pair set moved was now same olds news is =
    let b = routes before.list.now pair.client.path pair.service in
    let a = routes after.list.now pair.client.path pair.service in
    let old = place_of before.list.now pair.server.path in
    let new = place_of after.list.now pair.server.path in
    subst (λ (s : WitnessedSet). IsSetBy b a (test old new) s) (sym same)
    (subst (λ w. IsSetBy b a (test w new) set) olds (subst (λ n. IsSetBy b a (test was n) set) news is))
